-- The overlay lookup: document 01's text and DECIDED 36, on every pair of buffers, addresses and probe.
-- Assumes nothing.
use Rattle.std.specs.Prelude.{ℕ, List, Bool, ◌&&◌, not, cond, Option, Some, None, Result, Ok, Err}
use Rattle.order.specs.declared.Ver.{Ver}
use Rattle.order.specs.Order.{is_equal, cmp_bytes}
use Rattle.order.specs.Version.{newer_than}
use Rattle.frames.specs.declared.Addr.{Addr}
use Rattle.frames.specs.declared.Body.{Body}
use Rattle.frames.specs.declared.Refusal.{Refusal}
use Rattle.frames.specs.Refusals.{number_of}
use Rattle.records.specs.Records.{rec_at}
use Rattle.pages.specs.declared.Place.{Place}
use Rattle.pages.specs.Boundaries.{place, part_in}
use Rattle.search_head.specs.Head.{head_at}
use Rattle.delta.specs.Read.{leaf_key_at, value_at}
use Rattle.delta.specs.declared.LeafKey.{LeafKey}
use Rattle.overlay.specs.declared.Laid.{Laid}
use Rattle.records.specs.declared.Rec.{Rec}
use Rattle.search_head.specs.declared.Head.{Head}

-- ---- the page's side: the head that a search of the leaf finds (`search_head`). "The delta's value and remote are judged only if handed back,
-- the page's likewise", so only its key is read

-- "otherwise the page's"
abbrev pub page_rec : Option Rec → Result Laid Refusal
page_rec (Some r) = Ok (Laid.Page (place r.val_at r.val_len))
page_rec None = Err Refusal.BadFrame

unfoldable pub page_value : List ℕ → Body → ℕ → Result Laid Refusal
page_value s b i = page_rec (rec_at s b i)

-- ---- the delta's side

-- "the delta's key is the probe"
unfoldable pub is_probe : List ℕ → Place → List ℕ → Bool
is_probe t key probe = is_equal (cmp_bytes (part_in t key) probe)

-- "its value is handed back from the delta's buffer"
abbrev pub delta_val : Result Place Refusal → Result Laid Refusal
delta_val (Ok p) = Ok (Laid.Delta p)
delta_val (Err r) = Err r

unfoldable pub delta_value : List ℕ → Addr → Result Laid Refusal
delta_value t d = delta_val (value_at t d)

-- ---- both: "If the delta's key is the probe and it is no older than the page's head, or the page has none, its value is handed back from
-- the delta's buffer; otherwise the page's"

unfoldable pub laid_by : List ℕ → List ℕ → Addr → Bool → Ver → Result Head Refusal → Result Laid Refusal
laid_by s t d mine ver (Ok (Head.Is b i v at n)) = cond (mine && not (newer_than v ver)) (delta_value t d) (page_value s b i)
laid_by s t d mine ver (Ok (Head.Nothing n)) = cond mine (delta_value t d) (Ok Laid.Nothing)
laid_by s t d mine ver (Err r) = Err r

-- "Both frames' headers and the delta's key are judged for 4": the delta's key first, then the page. A probe without the page's prefix "is no key
-- of the page" (order 3)
abbrev pub laid_of : List ℕ → Addr → List ℕ → Addr → List ℕ → Result LeafKey Refusal → Result Laid Refusal
laid_of s a t d probe (Ok k) = laid_by s t d (is_probe t k.key probe) k.ver (head_at s a probe)
laid_of s a t d probe (Err r) = Err r

unfoldable pub laid_at : List ℕ → Addr → List ℕ → Addr → List ℕ → Result Laid Refusal
laid_at s a t d probe = laid_of s a t d probe (leaf_key_at t d)

-- document 01's number for each answer: 0 where the call answers
abbrev pub laid_number : Result Laid Refusal → ℕ
laid_number (Ok (Laid.Delta p)) = 0
laid_number (Ok (Laid.Page p)) = 0
laid_number (Ok Laid.Nothing) = 0
laid_number (Err r) = number_of r
