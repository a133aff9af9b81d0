-- A command's words.
use Rattle.std.specs.Prelude.{ℕ, zero, suc, ◌+◌, List, [], ◌∷◌, take, if◌then◌else◌, ◌==◌}

-- how many bytes stand before the first space
abbrev pub before_space : List ℕ → ℕ
before_space [] = zero
before_space (b ∷ l) = if b == 32 then zero else suc (before_space l)

-- the first word of a line, with the space behind it
abbrev pub first_word : List ℕ → List ℕ
first_word l = take (before_space l + 1) l
