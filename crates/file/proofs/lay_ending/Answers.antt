-- `file::lay_ending` meets its contract: its six stores, one after the other. Assumes nothing.
use Rattle.file.specs.EmptyFile.Laws.{ending_laid}
use Rattle.file.proofs.lay_ending.Goals as goal

pub returns : goal.returns
returns c =
    ending_laid _ _ _ _ _ _ _ c.put_short.ensures c.put_short-2.ensures c.put_short-3.ensures
    c.put_short-4.ensures c.put_short-5.ensures c.put_short-6.ensures c.requires
