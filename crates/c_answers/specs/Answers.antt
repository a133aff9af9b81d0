-- The words of each answer, in the order of include/cresttrestle.h. A refusal has no words.
-- Assumes nothing.
use Rattle.std.specs.Prelude.{ℕ, List, [], ◌∷◌, Option, Some, None, Result, Ok, Err}
use Rattle.pages.specs.declared.Place.{Place}
use Rattle.pages.specs.declared.Hints.{Hints}
use Rattle.c_words.specs.Words.{walk_words}
use Rattle.asof.specs.declared.AsOf.{AsOf}
use Rattle.delta.specs.declared.LeafKey.{LeafKey}
use Rattle.frames.specs.declared.Addr.{Addr}
use Rattle.frames.specs.declared.Body.{Body}
use Rattle.frames.specs.declared.PageId.{PageId}
use Rattle.frames.specs.declared.Refusal.{Refusal}
use Rattle.overlay.specs.declared.Laid.{Laid}
use Rattle.pages.specs.declared.Bounds.{Bounds}
use Rattle.sst.specs.declared.Bound.{Bound}
use Rattle.sst.specs.declared.Floor.{Floor}
use Rattle.sst.specs.declared.Found.{Found}
use Rattle.walks.specs.declared.Walk.{Walk}

abbrev pub place_words : Place → List ℕ
place_words p = p.at ∷ p.len ∷ []

-- ---- building

abbrev pub prefix_words : ℕ → List ℕ
prefix_words n = n ∷ []

abbrev pub built_words : Result (Addr × ℕ) Refusal → List ℕ
built_words (Ok (a, next)) = a.0 ∷ next ∷ []
built_words (Err r) = []

-- ---- reading a page

abbrev pub bounds_words : ℕ → ℕ → Result Bounds Refusal → List ℕ
bounds_words kind elems (Ok b) =
    kind ∷ elems ∷ b.lo.at ∷ b.lo.len ∷ b.hi.at ∷ b.hi.len ∷ b.prefix.at ∷ b.prefix.len ∷ b.sibling.0 ∷ []
bounds_words kind elems (Err r) = []

-- kind and number of keys as the page's headers have them
abbrev pub page_words : Option Body → Result Bounds Refusal → List ℕ
page_words (Some b) x = bounds_words b.kind b.elems x
page_words None x = []

abbrev pub hints_from : ℕ → ℕ → Hints
hints_from at n = record { at = at; count = n }

abbrev pub hints_words : Result (Option Hints) Refusal → List ℕ
hints_words (Ok (Some h)) = h.at ∷ h.count ∷ []
hints_words (Ok None) = 0 ∷ 0 ∷ []
hints_words (Err r) = []

abbrev pub hint_words : Option Addr → List ℕ
hint_words (Some a) = a.0 ∷ []
hint_words None = 0 ∷ []

-- ---- searching

abbrev pub found_words : Result Found Refusal → List ℕ
found_words (Ok (Found.Is slot v h p reads)) =
    1 ∷ slot ∷ v.txid ∷ v.cmd ∷ p.at ∷ p.len ∷ h.page.0 ∷ h.slot ∷ h.count ∷ reads ∷ []
found_words (Ok (Found.Nothing reads)) = 0 ∷ 0 ∷ 0 ∷ 0 ∷ 0 ∷ 0 ∷ 0 ∷ 0 ∷ 0 ∷ reads ∷ []
found_words (Err r) = []

abbrev pub as_of_words : Result AsOf Refusal → List ℕ
as_of_words (Ok (AsOf.Is slot v p reads)) = 1 ∷ slot ∷ v.txid ∷ v.cmd ∷ p.at ∷ p.len ∷ reads ∷ []
as_of_words (Ok (AsOf.Nothing reads)) = 0 ∷ 0 ∷ 0 ∷ 0 ∷ 0 ∷ 0 ∷ reads ∷ []
as_of_words (Err r) = []

abbrev pub bound_words : Result Bound Refusal → List ℕ
bound_words (Ok (Bound.At p reads)) = 1 ∷ p ∷ reads ∷ []
bound_words (Ok (Bound.PastEnd p reads)) = 0 ∷ p ∷ reads ∷ []
bound_words (Err r) = []

abbrev pub floor_words : Result Floor Refusal → List ℕ
floor_words (Ok (Floor.Is slot p reads)) = 1 ∷ slot ∷ p.0 ∷ reads ∷ []
floor_words (Ok (Floor.Nothing reads)) = 0 ∷ 0 ∷ 0 ∷ reads ∷ []
floor_words (Err r) = []

-- ---- walking

abbrev pub begun_words : Result Walk Refusal → List ℕ
begun_words (Ok w) = walk_words w
begun_words (Err r) = []

-- ---- deltas

abbrev pub leaf_key_words : Result LeafKey Refusal → List ℕ
leaf_key_words (Ok k) = k.key.at ∷ k.key.len ∷ k.ver.txid ∷ k.ver.cmd ∷ []
leaf_key_words (Err r) = []

abbrev pub index_key_words : Result Place Refusal → List ℕ
index_key_words (Ok p) = place_words p
index_key_words (Err r) = []

abbrev pub value_words : Result Place Refusal → List ℕ
value_words (Ok p) = place_words p
value_words (Err r) = []

abbrev pub child_words : Result PageId Refusal → List ℕ
child_words (Ok p) = p.0 ∷ []
child_words (Err r) = []

abbrev pub laid_words : Result Laid Refusal → List ℕ
laid_words (Ok (Laid.Delta p)) = 1 ∷ place_words p
laid_words (Ok (Laid.Page p)) = 2 ∷ place_words p
laid_words (Ok Laid.Nothing) = 0 ∷ 0 ∷ 0 ∷ []
laid_words (Err r) = []
