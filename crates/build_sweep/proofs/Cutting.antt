-- The fold over the old versions gives the history pages of the definitions; and how large it can be.
-- Assumes nothing.
use mathlib.Core.Path.{◌≡◌, refl, sym, ap, ap₂, ◌∙◌}
use mathlib.Core.List.{List, [], ◌∷◌, ◌++◌, append_assoc}
use mathlib.Core.Bool.{Bool, true, false, cond}
use mathlib.Core.Logic.{⊎_elim}
use Prim.Native.Nat.{ℕ, ◌+◌, ◌-◌, ◌≤◌, ◌<◌}
use native.Mathlib.Omega.{arith}
use lib.ListN.{length, take, drop, length-append}
use lib.Seq.{take_at, drop_at}
use lib.Dec.{eqb}
use borrow.Author.Tests.{eq-eqb, ne_eqb, eqb-false}
use Rattle.frames.specs.Layout.{base_len, frame_len}
use Rattle.frames.specs.Limits.{max_budget, max_entries, max_limit, max_value}
use Rattle.values.specs.Vals.{size_of}
use Rattle.build_paging.specs.Cuts.{fits, cuts_from, total}
use Rattle.build_paging.proofs.Cutting.{fits_says, fits_not}
use Rattle.build_sources.specs.Source.{Entry}
use Rattle.build_image.specs.Sizes.{remote_len, cost, costs_of, remotes_len}
use Rattle.build_image.specs.Image.{hist_size, page_end, history_end}
use Rattle.build_image.proofs.Lengths.{frame_most, remote_most, size-some}
use Rattle.build_sweep.specs.declared.Pages.{Pages}
use Rattle.build_sweep.specs.Pages.{pages_of}
use Rattle.build_sweep.specs.declared.Cut.{Cut}
use Rattle.build_sweep.specs.Cuts.{begun, cut_more, cut_next, cut_with, closed_of, pages_from, Near, Slim}

-- ---- one step

module _ (budget : ℕ) (g : Cut) (s f : ℕ) where
  pub cut_more_lem : (b : Bool) → b ≡ fits budget g.count g.size s → b ≡ true → cut_more g s f ≡ cut_with budget g s f
  unfolding cut_with
  cut_more_lem b e q = rw (sym e ∙ q) refl

  pub cut_next_lem : (b : Bool) → b ≡ fits budget g.count g.size s → b ≡ false → cut_next g s f ≡ cut_with budget g s f
  unfolding cut_with
  cut_next_lem b e q = rw (sym e ∙ q) refl

-- the same from a step's calls: x the value's size, f its remote frame's, z the page's frame
module _ (limit budget v kept : ℕ) (g : Cut) (x f : ℕ) (ex : x ≡ size_of false limit v) (ef : f ≡ remote_len limit v kept) (b : Bool) (eb : b ≡ fits budget g.count g.size (12 + x + 4)) where
  pub more_is : b ≡ true → cut_more g (12 + x + 4) f ≡ cut_with budget g (12 + size_of false limit v + 4) (remote_len limit v kept)
  more_is q = cut_more_lem budget g (12 + x + 4) f b eb q ∙ rw (ex, ef) refl

  pub next-is : (z : ℕ) → z ≡ frame_len g.size → b ≡ false
      → record { pages = g.pages + 1; to = g.to + z + g.remote; count = 1; size = base_len + (12 + x + 4); remote = f } ≡ cut_with budget g (12 + size_of false limit v + 4) (remote_len limit v kept)
  next-is z ez q = rw (ez, ← ex, ← ef) (cut_next_lem budget g (12 + x + 4) f b eb q)

pub closed_none : (g : Cut) → g.count ≡ 0 → record { count = g.pages; end = g.to } ≡ closed_of g
unfolding closed_of
closed_none g e = rw (eq-eqb g.count 0 e) refl

pub closed_some : (g : Cut) (x : ℕ) → x ≡ frame_len g.size → (g.count ≡ 0 → ⊥) → record { count = g.pages + 1; end = g.to + x + g.remote } ≡ closed_of g
unfolding closed_of
closed_some g x ex e = rw (ne_eqb g.count 0 e, ex) refl

-- ---- the whole fold

pages-at : ℕ → ℕ → Pages
pages-at n e = record { count = n; end = e }

-- a cut holds these old versions in the page under way
record Holds (limit : ℕ) (g : Cut) (ps : List Entry) : Type 0 where
  count : g.count ≡ length ps
  size : g.size ≡ hist_size limit ps
  remote : g.remote ≡ remotes_len limit ps

total_snoc : (limit : ℕ) (ps : List Entry) (e : Entry) → total (costs_of limit (ps ++ e ∷ [])) ≡ total (costs_of limit ps) + cost limit e
unfolding costs_of total
total_snoc limit [] e = omega arith
total_snoc limit (p ∷ ps) e = omega (arith, total_snoc limit ps e)

remotes_snoc : (limit : ℕ) (ps : List Entry) (e : Entry) → remotes_len limit (ps ++ e ∷ []) ≡ remotes_len limit ps + remote_len limit (length e.val) e.kept
unfolding remotes_len
remotes_snoc limit [] e = omega arith
remotes_snoc limit (p ∷ ps) e = omega (arith, remotes_snoc limit ps e)

holds_more : (limit : ℕ) (g : Cut) (ps : List Entry) (e : Entry) → Holds limit g ps → Holds limit (cut_more g (cost limit e) (remote_len limit (length e.val) e.kept)) (ps ++ e ∷ [])
unfolding hist_size
holds_more limit g ps e h =
    record {
      count = omega (arith, h.count, length-append ps (e ∷ []));
      size = omega (arith, h.size, total_snoc limit ps e);
      remote = omega (arith, h.remote, remotes_snoc limit ps e);
    }

holds-one : (limit : ℕ) (g : Cut) (e : Entry) → Holds limit (cut_next g (cost limit e) (remote_len limit (length e.val) e.kept)) (e ∷ [])
unfolding hist_size costs_of total remotes_len
holds-one limit g e = record { count = refl; size = omega arith; remote = omega arith }

abbrev rest : ℕ → ℕ → Cut → List Entry → List ℕ
rest limit budget g es = cuts_from budget g.count g.size (costs_of limit es)

pages_by : ℕ → ℕ → Cut → List Entry → List Entry → Pages
pages_by limit budget g ps es = pages-at (g.pages + length (rest limit budget g es)) (history_end limit g.to (rest limit budget g es) (ps ++ es))

-- the page under way ends behind those that it holds
page-is : (limit : ℕ) (g : Cut) (ps es : List Entry) → Holds limit g ps → page_end limit g.to (take g.count (ps ++ es)) ≡ g.to + frame_len g.size + g.remote
unfolding page_end
page-is limit g ps es h = rw (take_at ps es g.count (sym h.count), h.size, h.remote) refl

drop-is : (limit : ℕ) (g : Cut) (ps es : List Entry) → Holds limit g ps → drop g.count (ps ++ es) ≡ es
drop-is limit g ps es h = drop_at ps es g.count (sym h.count)

closed_by : (limit budget : ℕ) (g : Cut) (ps : List Entry) (b : Bool) → eqb g.count 0 ≡ b → Holds limit g ps → closed_of g ≡ pages_by limit budget g ps []
unfolding closed_of pages_by cuts_from costs_of history_end pages-at
closed_by limit budget g ps true e h = rw e (ap (λ (n : ℕ). pages-at n g.to) (omega arith))
closed_by limit budget g ps false e h = rw e (ap (pages-at (g.pages + 1)) (sym (page-is limit g ps [] h)))

more_by : (limit budget : ℕ) (g : Cut) (ps : List Entry) (e : Entry) (es : List Entry) → fits budget g.count g.size (cost limit e) ≡ true
    → pages_by limit budget (cut_more g (cost limit e) (remote_len limit (length e.val) e.kept)) (ps ++ e ∷ []) es ≡ pages_by limit budget g ps (e ∷ es)
unfolding pages_by cuts_from costs_of
more_by limit budget g ps e es q = rw (q, append_assoc) refl

rest-next : (limit budget : ℕ) (g : Cut) (e : Entry) (es : List Entry) → fits budget g.count g.size (cost limit e) ≡ false
    → rest limit budget g (e ∷ es) ≡ g.count ∷ cuts_from budget 1 (base_len + cost limit e) (costs_of limit es)
unfolding cuts_from costs_of
rest-next limit budget g e es q = rw q refl

end_cons : (limit at n : ℕ) (ns : List ℕ) (es : List Entry) → history_end limit at (n ∷ ns) es ≡ history_end limit (page_end limit at (take n es)) ns (drop n es)
unfolding history_end
end_cons limit at n ns es = refl

next_by : (limit budget : ℕ) (g : Cut) (ps : List Entry) (e : Entry) (es : List Entry) → Holds limit g ps → fits budget g.count g.size (cost limit e) ≡ false
    → pages_by limit budget (cut_next g (cost limit e) (remote_len limit (length e.val) e.kept)) (e ∷ []) es ≡ pages_by limit budget g ps (e ∷ es)
unfolding pages_by
next_by limit budget g ps e es h q =
    let ns = cuts_from budget 1 (base_len + cost limit e) (costs_of limit es) in
    let n : g.pages + length (g.count ∷ ns) ≡ g.pages + 1 + length ns = omega arith in
    sym (ap (λ (z : List ℕ). pages-at (g.pages + length z) (history_end limit g.to z (ps ++ e ∷ es))) (rest-next limit budget g e es q)
    ∙ ap₂ pages-at n
    (end_cons limit g.to g.count ns (ps ++ e ∷ es)
    ∙ ap₂ (λ (a : ℕ) (z : List Entry). history_end limit a ns z) (page-is limit g ps (e ∷ es) h) (drop-is limit g ps (e ∷ es) h)))

folded_by : (limit budget : ℕ) (e : Entry) (es : List Entry) (g : Cut) (ps : List Entry) → Holds limit g ps
    → ((k : Cut) (qs : List Entry) → Holds limit k qs → pages_from limit budget k es ≡ pages_by limit budget k qs es) → (b : Bool) → fits budget g.count g.size (cost limit e) ≡ b
    → pages_from limit budget (cut_with budget g (cost limit e) (remote_len limit (length e.val) e.kept)) es ≡ pages_by limit budget g ps (e ∷ es)
folded_by limit budget e es g ps h ih true q =
    ap (λ (k : Cut). pages_from limit budget k es) (sym (cut_more_lem budget g (cost limit e) (remote_len limit (length e.val) e.kept) true (sym q) refl))
    ∙ ih (cut_more g (cost limit e) (remote_len limit (length e.val) e.kept)) (ps ++ e ∷ []) (holds_more limit g ps e h)
    ∙ more_by limit budget g ps e es q
folded_by limit budget e es g ps h ih false q =
    ap (λ (k : Cut). pages_from limit budget k es) (sym (cut_next_lem budget g (cost limit e) (remote_len limit (length e.val) e.kept) false (sym q) refl))
    ∙ ih (cut_next g (cost limit e) (remote_len limit (length e.val) e.kept)) (e ∷ []) (holds-one limit g e)
    ∙ next_by limit budget g ps e es h q

folded : (limit budget : ℕ) (es : List Entry) (g : Cut) (ps : List Entry) → Holds limit g ps → pages_from limit budget g es ≡ pages_by limit budget g ps es
unfolding pages_from
folded limit budget [] g ps h = closed_by limit budget g ps (eqb g.count 0) refl h
folded limit budget (e ∷ es) g ps h =
    folded_by limit budget e es g ps h (folded limit budget es) (fits budget g.count g.size (cost limit e)) refl

-- from the beginning: the history pages of all of them
pub folds : (limit budget at : ℕ) (es : List Entry) → pages_from limit budget (begun at) es ≡ pages_of limit budget 0 at es
unfolding pages_of pages_by pages-at hist_size costs_of total remotes_len
folds limit budget at es = folded limit budget es (begun at) [] (record { count = refl; size = refl; remote = refl })

-- ---- how large

pub near_begin : (at : ℕ) → Near at 0 (begun at)
near_begin at = record { many = omega arith; to = omega arith; remote = omega arith; size = omega arith; first = λ e. refl }

pub near_slim : (at j : ℕ) (g : Cut) → Near at j g → j ≤ max_entries → at ≤ 9223372036854775807 → Slim g
near_slim at j g h k q =
    let m = h.many in
    let t = h.to in
    let f = h.remote in
    record { pages = omega arith; count = omega arith; to = omega arith; remote = omega arith; size = h.size }

near_by : (limit budget at j : ℕ) (g : Cut) (v kept : ℕ) (b : Bool) → limit ≤ max_limit → budget ≤ max_budget → v ≤ max_value → Near at j g
    → fits budget g.count g.size (12 + size_of false limit v + 4) ≡ b
    → Near at (j + 1) (cond b (cut_more g (12 + size_of false limit v + 4) (remote_len limit v kept)) (cut_next g (12 + size_of false limit v + 4) (remote_len limit v kept)))
near_by limit budget at j g v kept true lh bh vh h q =
    let s = size-some limit v in
    let f = remote_most limit v kept in
    let m = h.many in
    let t = h.to in
    let r = h.remote in
    record {
      many = omega arith;
      to = omega arith;
      remote = omega arith;
      size = ⊎_elim (λ z. let y : g.size ≡ base_len = h.first z in omega arith) (λ z. omega arith) (fits_says budget g.count g.size (12 + size_of false limit v + 4) q);
      first = λ z. absurd (omega arith);
    }
near_by limit budget at j g v kept false lh bh vh h q =
    let s = size-some limit v in
    let f = remote_most limit v kept in
    let m = h.many in
    let t = h.to in
    let r = h.remote in
    let z = h.size in
    let o = fits_not budget g.count g.size (12 + size_of false limit v + 4) q in
    let x = frame_most g.size in
    record { many = omega arith; to = omega arith; remote = omega arith; size = omega arith; first = λ z. absurd (omega arith) }

pub near_turn : (limit budget at j : ℕ) (g : Cut) (v kept : ℕ) → limit ≤ max_limit → budget ≤ max_budget → v ≤ max_value → Near at j g
    → Near at (j + 1) (cut_with budget g (12 + size_of false limit v + 4) (remote_len limit v kept))
unfolding cut_with
near_turn limit budget at j g v kept lh bh vh h = near_by limit budget at j g v kept (fits budget g.count g.size (12 + size_of false limit v + 4)) lh bh vh h refl

end_by_lem : (at j : ℕ) (g : Cut) (b : Bool) → eqb g.count 0 ≡ b → Near at j g → j ≤ max_entries
    → ((cond b (pages-at g.pages g.to) (pages-at (g.pages + 1) (g.to + frame_len g.size + g.remote))).end ≤ at + 12890734500)
    × ((cond b (pages-at g.pages g.to) (pages-at (g.pages + 1) (g.to + frame_len g.size + g.remote))).count ≤ max_entries)
unfolding pages-at
end_by_lem at j g true e h k = let m = h.many in let t = h.to in (omega arith, omega arith)
end_by_lem at j g false e h k =
    let m = h.many in
    let t = h.to in
    let r = h.remote in
    let z = h.size in
    let x = frame_most g.size in
    let n : 0 < g.count = omega (arith, eqb-false g.count 0 e) in
    (omega arith, omega arith)

pub near-end : (at j : ℕ) (g : Cut) → Near at j g → j ≤ max_entries → ((closed_of g).end ≤ at + 12890734500) × ((closed_of g).count ≤ max_entries)
unfolding closed_of pages-at
near-end at j g h k = end_by_lem at j g (eqb g.count 0) refl h k
