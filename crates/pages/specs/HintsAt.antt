-- Hints: "u32 count and history addresses, u32 count and remote addresses", behind size; "Each hint reader answers none when its own
-- count is 0". Counts that do not fit the payload are 4.
-- Assumes nothing.
use Rattle.std.specs.Prelude.{ℕ, ◌+◌, ◌*◌, ◌-◌, ◌/◌, List, cond, length, ltb, leb, eqb, Option, Some, None, Result, Ok, Err}
use Rattle.numbers.specs.Number.{le_at}
use Rattle.frames.specs.declared.Addr.{Addr}
use Rattle.frames.specs.declared.Body.{Body}
use Rattle.frames.specs.declared.Refusal.{Refusal}
use Rattle.frames.specs.Layout.{addr, open_at}
use Rattle.pages.specs.declared.Hints.{Hints}
use Rattle.pages.specs.Sound.{remotes_at, hints_ok}

unfoldable pub hints_of : ℕ → ℕ → Result (Option Hints) Refusal
hints_of at n = cond (eqb n 0) (Ok None) (Ok (Some (record { at = at; count = n })))

-- of a leaf page, one of its two lists; another kind is 4
abbrev pub hints_read : List ℕ → (Body → Result (Option Hints) Refusal) → Option Body → Result (Option Hints) Refusal
hints_read s f (Some b) =
    cond (eqb b.kind 0)
    (cond (hints_ok s b) (cond (eqb b.tail b.end) (Ok None) (f b)) (Err Refusal.BadFrame))
    (Err Refusal.BadFrame)
hints_read s f None = Err Refusal.BadFrame

unfoldable pub history_hints_at : List ℕ → Addr → Result (Option Hints) Refusal
history_hints_at s a = hints_read s (λ b. hints_of (b.end + 4) (le_at 4 s b.end)) (open_at s a)

unfoldable pub remote_hints_at : List ℕ → Addr → Result (Option Hints) Refusal
remote_hints_at s a = hints_read s (λ b. hints_of (remotes_at s b + 4) (le_at 4 s (remotes_at s b))) (open_at s a)

-- the k-th address of a list
unfoldable pub hint_in : List ℕ → Hints → ℕ → Option Addr
hint_in s h k =
    cond (ltb k h.count)
    (cond (leb h.at (length s))
    (cond (ltb k ((length s - h.at) / 8)) (Some (addr (le_at 8 s (h.at + 8 * k)))) None)
    None)
    None
