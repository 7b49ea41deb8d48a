-- The bytes that were read are listed as all that the reader had. Assumes nothing.
use Rattle.std.proofs.Common.{◌≡◌, ℕ, ◌<◌, ◌≤◌, List, [], ◌++◌, length, take, ap, sym, ◌∙◌, subst, arith, append-nil, take_all, None, Some, Ok, Err}
use Rattle.std.proofs.lemmas.List.{length-append, take-append-le}
use Rattle.std.proofs.Math.Decide.{dec_lt}
use Rattle.std.specs.declared.option.Option.{Option}
use Rattle.std.specs.Io.KnownBytes.{Appends, Consumes, IsAtEnd}
use Rattle.listing_text.specs.Listing.{listing}
use Rattle.listing_laws.specs.Cut.{listing_cut}
use Rattle.std.specs.Prelude.{OnOk}
use Rattle.std.specs.Result.{MatchResult, IsErrAnd}
use Rattle.std.specs.declared.result.Result.{Result}
use Rattle.std.specs.declared.io.Error.{Error}
use Rattle.std.proofs.lemmas.Result.{err_from_is_err_and}
use Rattle.listing.specs.declared.ListError.{ListError}
use Rattle.listing.specs.declared.ListError.TheVariants.{NotPrinted}
use Rattle.listing.specs.ListInput.{Lists}

module _ (given left b : List ℕ) (n : ℕ) (e : given ≡ take n b ++ left) (within : n ≤ length b) (most : length b ≡ 63146) (ended : n < length b → left ≡ []) where
  listed_whole : listing (take n b) ≡ listing given
  listed_whole = go (dec_lt n (length b))
    where
      go : Dec (n < length b) → listing (take n b) ≡ listing given
      go (yes h) = ap listing (sym (e ∙ ap (λ l. take n b ++ l) (ended h) ∙ append-nil (take n b)))
      go (no h) =
          let full : take n b ≡ b = take_all n b (omega (arith, h)) in
          let all : given ≡ b ++ left = e ∙ ap (λ l. l ++ left) full in
          let front : take 63146 given ≡ b = ap (take 63146) all ∙ take-append-le 63146 b left (omega (arith, most)) ∙ take_all 63146 b (omega (arith, most)) in
          let long : 63145 < length given = omega (arith, ap length all, length-append b left, most) in
          ap listing (full ∙ sym front) ∙ listing_cut given long

-- what was printed of the bytes that were read is what the input is to be listed as
pub printed_whole : (given left old new : Option (List ℕ)) (b : List ℕ) (n : ℕ) → Consumes given left (take n b) → n ≤ length b → length b ≡ 63146
    → (n < length b → IsAtEnd left) → Appends old new (listing (take n b)) → Lists (Ok tt) given old new
printed_whole None left old new b n e h m t p = tt
printed_whole (Some xs) None old new b n e h m t p = absurd e
printed_whole (Some xs) (Some ys) old new b n e h m t p = subst (Appends old new) (listed_whole xs ys b n e h m t) p

-- a result whose error was wrapped is one of the same value
pub from_ok : {T E F : Type 0} (P : E → F → Type 0) (r : Result T E) (s : Result T F) (n : T) → MatchResult r (λ x. s ≡ Ok x) (λ e. IsErrAnd s (P e)) → s ≡ Ok n → r ≡ Ok n
from_ok P (Ok x) s n m f = cc
from_ok P (Err e) s n m f = absurd (rw f at m)

-- where the listing is printed the input is listed as it is to be, and else it is said that it was not printed
pub listed : (P : Error → ListError → Type 0) → ((e : Error) (y : ListError) → P e y → y ≡ NotPrinted e)
    → (given old new : Option (List ℕ)) (p : Result (Unit {0}) Error) (q : Result (Unit {0}) ListError) → MatchResult p (λ x. q ≡ Ok x) (λ e. IsErrAnd q (P e))
    → (OnOk p (Lists (Ok tt) given old new)) → Lists q given old new
listed P says given old new (Ok tt) q m h = rw m h
listed P says given old new (Err e) q m h =
    let y = err_from_is_err_and q m in
    rw (y.1, says e y.0 y.2) tt
