-- What every building call is told and answers, whether it builds a page or a delta; and document 01's numbers 1 and 2, which ask the same of all.
-- Assumes nothing.
use Rattle.std.specs.Prelude.{ℕ, ◌%◌, Bool, cond, ◌&&◌, ltb, leb, eqb, Result, Ok, Err}
use Rattle.frames.specs.Refusals.{number_of}
use Rattle.frames.specs.Limits.{max_budget, max_limit, min_budget}
use Rattle.build_image.specs.declared.Call.{Call}
use Rattle.frames.specs.declared.Addr.{Addr}
use Rattle.frames.specs.declared.Refusal.{Refusal}

-- "lsn is the larger of the given and the checkpoint's"
unfoldable pub larger : ℕ → ℕ → ℕ
larger x y = cond (ltb x y) y x

-- what a call is told, as one value
abbrev pub call_of : ℕ → ℕ → ℕ → ℕ → ℕ → ℕ → Call
call_of limit budget group txid lsn checkpoint = record { limit = limit; budget = budget; group = group; txid = txid; lsn = larger lsn checkpoint }

-- 1 BAD LIMIT: "inline limit not 1..65,536; budget not 256..131,072"
abbrev pub limit_ok : ℕ → Bool
limit_ok limit = leb 1 limit && leb limit max_limit

abbrev pub budget_ok : ℕ → Bool
budget_ok budget = leb min_budget budget && leb budget max_budget

abbrev pub limits_ok : ℕ → ℕ → Bool
limits_ok limit budget = limit_ok limit && budget_ok budget

-- "The default budget goes from 131,072 to 32,768" (order 2)
abbrev pub default_budget : ℕ
default_budget = 32768

-- "Whoever wants the old pages, the comparison with the Rust first of all, passes 131,072 by name"
abbrev pub rust_budget : ℕ
rust_budget = 131072

-- 2 BAD ARENA: "next free address below 8, not a multiple of 8, or above the arena's length"
abbrev pub next_ok : ℕ → ℕ → Bool
next_ok len next = leb 8 next && eqb (next % 8) 0 && leb next len

-- document 01's number of an answer: 0 where something was built
abbrev pub built_number : Result (Addr × ℕ) Refusal → ℕ
built_number (Ok (a, n)) = 0
built_number (Err r) = number_of r
