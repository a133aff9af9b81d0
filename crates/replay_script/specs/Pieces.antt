-- The pieces of an answer, as bytes.
use Rattle.std.specs.Prelude.{ℕ, List, ◌++◌, codes, decimal}

-- a number behind a space
abbrev pub number_text : ℕ → List ℕ
number_text n = codes " " ++ decimal n

-- a refusal's number
abbrev pub refused_text : ℕ → List ℕ
refused_text n = codes "!" ++ (number_text n ++ codes "\n")
