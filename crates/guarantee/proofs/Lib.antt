pub mod SumsInNumbers
