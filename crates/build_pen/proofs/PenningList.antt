-- All entries of a record list: which head stands next, read from its bytes. What the pen does with it is `Penning`.
-- Assumes nothing.
use mathlib.Core.Path.{◌≡◌, refl, sym, ap, ◌∙◌, subst}
use mathlib.Core.List.{List, [], ◌∷◌}
use mathlib.Core.Bool.{false}
use Prim.Native.Nat.{ℕ, ◌+◌, ◌-◌, ◌≤◌, ◌<◌}
use native.Mathlib.Omega.{arith}
use lib.ListN.{length}
use Rattle.spans.specs.Span.{part_or, put}
use Rattle.spans.proofs.Part.{length_part, part_or_in}
use Rattle.frames.specs.Limits.{max_entries}
use Rattle.values.specs.Vals.{hist_of}
use Rattle.build_sources.specs.Source.{Entry, olds}
use Rattle.build_image.specs.declared.Call.{Call}
use Rattle.build_image.specs.Image.{head_rec, head_recs}
use Rattle.build_history.specs.Runs.{Sane}
use Rattle.build_heads.specs.Located.{places_at}
use Rattle.build_pen.specs.declared.RecordAt.{RecordAt}
use Rattle.build_pen.specs.declared.Nib.{Nib}
use Rattle.build_pen.specs.declared.Pen.{Pen}
use Rattle.build_pen.specs.declared.Ran.{Ran}
use Rattle.build_pen.specs.Stretches.{draws, Rising}
use Rattle.build_pen.specs.Places.{list_from, list_behind, Well, Reads, past_of, Inside, entry_in}
use Rattle.build_pen.specs.Nibs.{Asks, drawn, nib_past, hint_of, hint_for}
use Rattle.build_pen.specs.Pens.{pens_left, Steady, RanTo, all_left, AllLaid}
use Rattle.build_pen.proofs.Penning as penning
use Rattle.build_pen.proofs.WritingList.{list-hint}
use Rattle.build_pen.proofs.Places.{end-from, inside, onward, step_head, well_past}

pub record PenningList (a₀ l whole : List ℕ) (m : Call) (base p end fin : ℕ) (a : List ℕ) (at : ℕ) (q : Pen) (n : Nib) (hint : ℕ) : Type 0 where
  pub pens : penning.Penning 0 a₀ whole m base p end fin a (list_from l at) q n hint
  pub well : Well l at

pub all_begin : (a l : List ℕ) (m : Call) (base p from : ℕ) (q : Pen) (n : Nib) (hint : ℕ) → Well l from → AllLaid 0 (length a) q n hint base m p (list_from l from)
    → PenningList a l (draws a (all_left m q n hint base p (list_from l from))) m base p (length a)
    (n.rec + length (head_recs m.limit p n.remote (places_at m.limit m.budget q.loc (olds (list_from l from))) (list_from l from))) a from q n hint
all_begin a l m base p from q n hint w h = record { pens = penning.all_begin 0 a m base p (list_from l from) q n hint h; well = w }

module _ (a₀ l whole : List ℕ) (m : Call) (base p end fin : ℕ) (a : List ℕ) (at : ℕ) (q : Pen) (n : Nib) (hint : ℕ) (h : PenningList a₀ l whole m base p end fin a at q n hint) where
  abbrev xs : List Entry
  xs = list_from l at

  pub all_end : length l ≤ at → (n.rec ≡ fin) × (a ≡ whole)
  all_end w = penning.all_end 0 a₀ whole m base p end fin a xs q n hint h.pens (end-from l at w)

  module _ (lt : at < length l) (i : RecordAt) (rd : Reads l at i) where
    abbrev e : Entry
    e = entry_in l false i

    abbrev es : List Entry
    es = list_behind l (past_of i) i.kat i.klen

    pub head_inside : Inside l i
    head_inside = inside l at lt i rd

    pub head_past : past_of i ≤ length l
    head_past = head_inside.all

    list-is : list_from l at ≡ e ∷ es
    list-is = step_head l at lt i rd

    key-long : length (part_or l i.kat i.klen) ≡ i.klen
    key-long = ap length (part_or_in l i.kat i.klen (omega (arith, head_inside.all))) ∙ length_part l i.kat i.klen (omega (arith, head_inside.all))

    pub head_key_lem : p ≤ i.klen
    head_key_lem = omega (arith, penning.head_key_lem 0 a₀ whole m base p end fin a xs q n hint h.pens e es list-is refl, key-long)

    -- what the run asks; x is the place behind the head
    pub run-asked : (x : ℕ) → x ≡ past_of i → Sane m
        → Sane m × (Well l x × ((i.kat + i.klen ≤ length l) × (Steady m q (olds (list_behind l x i.kat i.klen)) × (Rising 0 (pens_left m q (olds (list_behind l x i.kat i.klen)) [] []) (length a) × (length (list_behind l x i.kat i.klen) ≤ max_entries)))))
    run-asked x ex sane =
        subst (λ (y : ℕ). Sane m × (Well l y × ((i.kat + i.klen ≤ length l) × (Steady m q (olds (list_behind l y i.kat i.klen)) × (Rising 0 (pens_left m q (olds (list_behind l y i.kat i.klen)) [] []) (length a) × (length (list_behind l y i.kat i.klen) ≤ max_entries)))))) (sym ex) (
          sane,
          (
            well_past l at lt i rd h.well,
            (
              omega (arith, head_inside.all),
              (
                penning.run-steady 0 a₀ whole m base p end fin a xs q n hint h.pens e es list-is refl,
                (penning.run-order 0 a₀ whole m base p end fin a xs q n hint h.pens e es list-is refl, penning.run-few 0 a₀ whole m base p end fin a xs q n hint h.pens e es list-is refl),
              ),
            ),
          ),
        )

    module _ (x : ℕ) (ex : x ≡ past_of i) (a₁ : List ℕ) (r : Ran) (rx : RanTo m l (list_behind l x i.kat i.klen) x a q a₁ r) where
      rn : RanTo m l es (past_of i) a q a₁ r
      rn = subst (λ (y : ℕ). RanTo m l (list_behind l y i.kat i.klen) y a q a₁ r) ex rx

      pub ran-place : (r.slot ≤ max_entries) × (r.run ≤ max_entries)
      ran-place = penning.ran-place 0 a₀ whole m base p end fin a xs q n hint h.pens e es list-is refl a₁ (list_from l r.at) r.pen r.run r.page r.slot rn.ran

      pub ran-less : length l - r.at < length l - at
      ran-less = omega (arith, rn.onward, onward l at lt i rd, lt)

      abbrev rec : Entry → List ℕ
      rec = head_rec m.limit p n.remote (hist_of r.page r.slot r.run)

      abbrev w : List ℕ
      w = hint_of m.limit n.remote i.vlen

      hint-is : hint_of m.limit n.remote i.vlen ≡ hint_for m.limit n.remote (entry_in l false i)
      hint-is = sym (list-hint l i head_inside m.limit n.remote false)

      pub head_hint : hint + length (hint_of m.limit n.remote i.vlen) ≤ length a₁
      head_hint = penning.head_hint 0 a₀ whole m base p end fin a xs q n hint h.pens e es list-is refl a₁ (list_from l r.at) r.pen r.run r.page r.slot rn.ran w hint-is

      module _ (a₂ : List ℕ) (g : ℕ) (eg : g ≡ hint + length (hint_of m.limit n.remote i.vlen)) (e₂ : a₂ ≡ put a₁ hint (hint_of m.limit n.remote i.vlen)) where
        pub head_asks : Asks (length a₂) n base m rec e
        head_asks =
            penning.head_asks 0 a₀ whole m base p end fin a xs q n hint h.pens e es list-is refl a₁ (list_from l r.at) r.pen r.run r.page r.slot rn.ran w hint-is a₂ g eg e₂

        module _ (a₃ : List ℕ) (n' : Nib) (en : n' ≡ nib_past m n rec e) (ea : a₃ ≡ drawn m n base rec e a₂) where
          pub all_turn : PenningList a₀ l whole m base p end fin a₃ r.at r.pen n' g
          all_turn =
              record {
                pens =
                    penning.all_turn 0 a₀ whole m base p end fin a xs q n hint h.pens e es list-is refl a₁ (list_from l r.at) r.pen r.run r.page r.slot rn.ran w hint-is a₂ g eg e₂ a₃ n' en
                    ea;
                well = rn.well;
              }
