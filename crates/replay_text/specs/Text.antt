-- What print_bytes and print_runs write, as bytes.
use Rattle.std.specs.Prelude.{ℕ, zero, suc, ◌+◌, ◌/◌, ◌%◌, List, [], ◌∷◌, ◌++◌, length, drop, codes, decimal, if◌then◌else◌, nat_lt, ◌==◌, false}
use Rattle.std.specs.Fmt.{digit_glyph}
use Rattle.std.specs.List.{flat_map}

-- a byte's two hexadecimal digits
abbrev pub hex_of : ℕ → List ℕ
hex_of b = digit_glyph false (b / 16) ∷ digit_glyph false (b % 16) ∷ []

-- two digits a byte, or - where there are none
abbrev pub bytes_text : List ℕ → List ℕ
bytes_text [] = codes "-"
bytes_text (b ∷ s) = flat_map hex_of (b ∷ s)

-- how many bytes at the front are b
abbrev pub run_length : ℕ → List ℕ → ℕ
run_length b [] = zero
run_length b (x ∷ s) = if x == b then suc (run_length b s) else zero

-- how often the byte before it stands
abbrev pub run_mark : ℕ → List ℕ
run_mark n = codes "*" ++ (decimal n ++ codes ".")

-- the bytes of a list that has at most k: a run of four or more as hh*N., others as hh
abbrev pub runs_within : ℕ → List ℕ → List ℕ
runs_within zero s = []
runs_within (suc k) [] = []
runs_within (suc k) (b ∷ s) = if nat_lt (run_length b s) 3 then hex_of b ++ runs_within k s
    else (hex_of b ++ run_mark (1 + run_length b s)) ++ runs_within k (drop (run_length b s) s)

-- the same of any list, or - where it is empty
abbrev pub runs_text : List ℕ → List ℕ
runs_text [] = codes "-"
runs_text (b ∷ s) = runs_within (suc (length s)) (b ∷ s)
