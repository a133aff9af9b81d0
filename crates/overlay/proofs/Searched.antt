-- The overlay beside search: wherever search does not refuse the page, the overlay's answer is a function of what search finds; so
-- on a sound page it is what document 01 says of the page's own heads.
-- Assumes nothing.
use mathlib.Core.Path.{◌≡◌, refl}
use mathlib.Core.List.{List}
use mathlib.Core.Bool.{Bool, ◌&&◌, not, cond}
use Prim.Native.Nat.{ℕ}
use Rattle.order.specs.declared.Ver.{Ver}
use Rattle.order.specs.Version.{newer_than}
use Rattle.frames.specs.declared.Addr.{Addr}
use Rattle.frames.specs.declared.Body.{Body}
use Rattle.frames.specs.declared.Refusal.{Refusal}
use Rattle.frames.specs.Layout.{Inside}
use Rattle.records.specs.Records.{rec_at}
use Rattle.records.proofs.Inside.{at-inside}
use Rattle.pages.specs.declared.Place.{Place}
use Rattle.pages.specs.Meaning.{Page, Head, leaf, says, meaning}
use Rattle.sst.specs.Search.{leaves, outcome_at, found_rec, head_in, search_of, search_at}
use Rattle.sst.specs.Says.{FoundSays}
use Rattle.sst.proofs.Opens.{outcome_ready}
use Rattle.sst.proofs.Answers.{search_says, search_answers}
use Rattle.search_head.specs.Head.{head_of, head_slot, head_at}
use Rattle.delta.specs.Read.{leaf_key_at, keyed}
use Rattle.overlay.specs.Overlay.{page_value, is_probe, delta_value, laid_by, laid_at}
use Rattle.std.proofs.Common.{Option, Some, None, Result, Ok, Err}
use Rattle.overlay.specs.declared.Laid.{Laid}
use Rattle.records.specs.declared.Rec.{Rec}
use Rattle.sst.specs.declared.Found.{Found}
use Rattle.sst.specs.declared.Halved.{Halved}
use Rattle.sst.specs.declared.Outcome.{Outcome}

-- "If the delta's key is the probe (mine) and it is no older than the page's head, or the page has none, its value is handed back from the
-- delta's buffer; otherwise the page's", beside what search found on the page
abbrev pub beside : List ℕ → Addr → Bool → Ver → Result Found Refusal → Result Laid Refusal
beside t d mine ver (Ok (Found.Is i v h p n)) = cond (mine && not (newer_than v ver)) (delta_value t d) (Ok (Laid.Page p))
beside t d mine ver (Ok (Found.Nothing n)) = cond mine (delta_value t d) (Ok Laid.Nothing)
beside t d mine ver (Err r) = Err r

module _ (s : List ℕ) (a : Addr) (t : List ℕ) (d : Addr) (probe : List ℕ) (mine : Bool) (ver : Ver) where
  of_record : (b : Body) (i n : ℕ) → Inside s b → (r : Option Rec) → rec_at s b i ≡ r → (found_rec s i n r ≡ Err Refusal.BadFrame → ⊥)
      → laid_by s t d mine ver (head_slot s b i n) ≡ beside t d mine ver (found_rec s i n r)
  unfolding laid_by head_slot page_value
  of_record b i n j (Some r) e f = rw ((at-inside s b i r j e).1, e) refl
  of_record b i n j None e f = absurd (f refl)

  of_outcome : (o : Option Outcome) → outcome_at s a probe leaves ≡ o → (search_of s o ≡ Err Refusal.BadFrame → ⊥) → laid_by s t d mine ver (head_of s o) ≡ beside t d mine ver (search_of s o)
  unfolding laid_by head_in
  of_outcome (Some (Outcome.Stands b (Some (Halved.At i n)))) q f = of_record b i n (outcome_ready s a probe leaves b (Some (Halved.At i n)) q).0.inside (rec_at s b i) refl f
  of_outcome (Some (Outcome.Stands b (Some (Halved.End p n)))) q f = refl
  of_outcome (Some (Outcome.Stands b None)) q f = absurd (f refl)
  of_outcome (Some Outcome.Empty) q f = refl
  of_outcome None q f = absurd (f refl)

module _ (s : List ℕ) (a : Addr) (t : List ℕ) (d : Addr) (probe : List ℕ) (ver : Ver) (key : Place) (k : leaf_key_at t d ≡ Ok (keyed ver key)) where
  pub overlay_searched : (search_at s a probe ≡ Err Refusal.BadFrame → ⊥) → laid_at s a t d probe ≡ beside t d (is_probe t key probe) ver (search_at s a probe)
  unfolding laid_at head_at search_at
  overlay_searched f = rw k (of_outcome s a t d probe (is_probe t key probe) ver (outcome_at s a probe leaves) refl f)

  -- on a sound leaf page: what search finds is the page's head of that key, or none
  pub overlay_says : (p : Page) → meaning s a ≡ says p → (hs : List Head) → p.rows ≡ leaf hs
      → (laid_at s a t d probe ≡ beside t d (is_probe t key probe) ver (search_at s a probe)) × FoundSays s hs probe (search_at s a probe)
  overlay_says p m hs e = (overlay_searched (search_answers s a p m probe Refusal.BadFrame hs e), search_says s a p m probe hs e)
