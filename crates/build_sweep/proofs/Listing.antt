-- The sweep over a record list: where it stands, in numbers.
-- Assumes nothing.
use mathlib.Core.Path.{◌≡◌, refl, sym, ap, ◌∙◌}
use mathlib.Core.List.{List, []}
use mathlib.Core.Bool.{Bool, true, false, cond}
use Prim.Native.Nat.{ℕ, ◌+◌, ◌-◌, ◌≤◌, ◌<◌}
use native.Mathlib.Omega.{arith}
use lib.ListN.{length}
use Rattle.spans.specs.Span.{part_or}
use Rattle.order.specs.Order.{cmp_bytes, is_equal}
use Rattle.order.specs.Version.{newer_than}
use Rattle.frames.specs.Limits.{max_budget, max_entries, max_key, max_limit, max_value}
use Rattle.values.specs.Vals.{size_of}
use Rattle.build_sources.specs.declared.Cursor.{Cursor}
use Rattle.build_sources.specs.declared.EntryAt.{EntryAt}
use Rattle.build_sources.specs.Lists.{first_of, record_item}
use Rattle.build_sources.specs.Source.{Entry, entry_of, entries, well_formed}
use Rattle.build_sources.proofs.Sourced.{Found, found, ended, odd}
use Rattle.build_sources.proofs.Stepped.{record_end}
use Rattle.build_image.specs.Sizes.{remote_len}
use Rattle.build_sweep.specs.declared.Tally.{Tally}
use Rattle.build_sweep.specs.declared.Pages.{Pages}
use Rattle.build_sweep.specs.declared.Cut.{Cut}
use Rattle.build_sweep.specs.declared.Way.{Way}
use Rattle.build_sweep.specs.declared.Way.TheVariants.{Head, Old, Falls}
use Rattle.build_sweep.specs.Tally.{nothing, with_old, with_head}
use Rattle.build_sweep.specs.Bounds.{Bounded}
use Rattle.build_sweep.specs.Cuts.{begun, cut_with, closed_of, Slim}
use Rattle.build_sweep.specs.Ents.{ent_at, order_at, ver_in, way_by, way_at}
use Rattle.build_sweep.specs.Swept.{listed, plain, Accepted}
use Rattle.build_sweep.specs.Adding.{Adding}
use Rattle.build_sweep.proofs.Ents.{here, step_at_lem, step_out, key-bare, same-order, way_head, way_old, way_falls}
use Rattle.build_sweep.proofs.Plain.{not_well, not_rising, not_few}
use Rattle.build_sweep.proofs.Sweeping.{Climbing, climb_begin, climb_up, climb_last, climb_falls, climb_on, add_begin, add_bounded, add_slim, add-end, add_many, add_head, add_old}
use Rattle.std.proofs.Common.{Some, None}
use Rattle.std.specs.declared.cmp.Ordering.{Ordering}

-- the entry before, by all that the order asks of it
abbrev pub prior : List ℕ → ℕ → ℕ → Entry
prior l kat klen = record { old = false; key = part_or l kat klen; ver = ver_in l (kat + klen); val = []; kept = 0; page = 0 }

pub record Lists (l : List ℕ) (p next limit budget at : ℕ) (seen : Bool) (kat klen : ℕ) (t : Tally) (g : Cut) : Type 0 where
  pub climbs : Climbing (listed l 0) (entries l [] (here 0 at seen kat klen)) seen (prior l kat klen)
  pub adds : Adding (listed l 0) (entries l [] (here 0 at seen kat klen)) p next limit budget t g
  pub well : well_formed l [] (here 0 at seen kat klen) ≡ well_formed l [] (first_of 0)
  pub few : t.heads + t.olds ≤ max_entries
  pub behind : kat + klen ≤ at

pub list_begin : (l : List ℕ) (p next limit budget : ℕ) → Lists l p next limit budget 5 false 0 0 nothing (begun next)
list_begin l p next limit budget =
    record { climbs = climb_begin (listed l 0) (prior l 0 0); adds = add_begin (listed l 0) p next limit budget; well = refl; few = omega arith; behind = omega arith }

module _ (l : List ℕ) (p next limit budget at : ℕ) (seen : Bool) (kat klen : ℕ) (t : Tally) (g : Cut) (h : Lists l p next limit budget at seen kat klen t g)
    (nh : next ≤ 9223372036854775807) where
  abbrev c : Cursor
  c = here 0 at seen kat klen

  abbrev rest : List Entry
  rest = entries l [] c

  abbrev x : Entry
  x = prior l kat klen

  pub list_slim : Slim g
  list_slim = add_slim (listed l 0) rest p next limit budget t g h.adds nh

  pub list-end : length l ≤ at → (r : Pages) → r ≡ closed_of g → Accepted l p next limit budget t r kat klen
  list-end q r er =
      let e = ended l [] c (sym (record_end l [] c refl q)) in
      let s = add-end (listed l 0) rest p next limit budget t g h.adds e.0 r er in
      record {
        ended =
            record {
              well = sym h.well ∙ e.1;
              rises = climb_up (listed l 0) rest seen x h.climbs e.0;
              count = omega (arith, h.adds.count, ap length e.0);
              few = h.few;
              last = climb_last (listed l 0) rest seen x h.climbs e.0;
            };
        tally = s.tally;
        pages = s.pages;
        bounded = s.bounded;
        end = s.end;
        count = s.count;
      }

  module _ (lt : at < length l) where
    pub list_bad : None ≡ ent_at l at → plain l 0 ≡ false
    list_bad q = not_well l 0 (sym h.well ∙ (odd l [] c (step_out l [] at seen kat klen lt q)).1)

    module _ (k v : ℕ) (en : Some (k, v) ≡ ent_at l at) where
      abbrev it : EntryAt
      it = record_item l c k v

      abbrev on : Cursor
      on = here 0 (at + 2 + k + 16 + v) true (at + 2) k

      abbrev ent : Entry
      ent = entry_of l [] it

      fd : Found l [] c it on
      fd = found l [] c it on (step_at_lem l [] at seen kat klen lt k v en)

      kept-is : ent.kept ≡ 0
      unfolding entry_of
      kept-is = refl

      key-long : length ent.key ≡ k
      key-long = fd.klen ∙ omega arith

      pub list-many : max_entries ≤ t.heads + t.olds → plain l 0 ≡ false
      list-many q = not_few l 0 (add_many (listed l 0) rest p next limit budget t g h.adds ent (entries l [] on) fd.list k v 0 key-long fd.vlen kept-is q)

      pub list-key : k ≤ max_key
      list-key = omega (arith, fd.placed.ksmall)

      pub list-val : v ≤ max_value
      list-val = fd.placed.vsmall

      pub list-fits : at + 2 + k + 16 + v ≤ length l
      list-fits = fd.placed.val

      pub list-bounded : Bounded t max_entries
      list-bounded = add_bounded (listed l 0) rest p next limit budget t g h.adds

      pub list-less : length l - (at + 2 + k + 16 + v) < length l - at
      list-less = omega arith

      key-is : ent.key ≡ part_or l (at + 2) k
      unfolding entry_of
      key-is = key-bare l (at + 2) k

      ver-is : ent.ver ≡ ver_in l (at + 2 + k)
      unfolding entry_of
      ver-is = refl

      abbrev ord : Ordering
      ord = order_at l seen kat klen (at + 2) k

      ord_is : ord ≡ cond seen (cmp_bytes x.key ent.key) Ordering.Less
      unfolding order_at
      ord_is = rw key-is refl

      old-is : ent.old ≡ is_equal ord
      unfolding entry_of
      old-is = same-order l 0 at seen kat klen (at + 2) k

      module _ (y : Way) (ey : y ≡ way_at l seen kat klen (at + 2) k) where
        way_is : y ≡ way_by ord (newer_than x.ver ent.ver)
        unfolding way_at
        way_is = rw ver-is ey

        pub list_falls : y ≡ Falls → plain l 0 ≡ false
        list_falls q =
            not_rising l 0
            (climb_falls (listed l 0) rest seen x h.climbs ent (entries l [] on) fd.list ord ord_is (way_falls ord x.ver ent.ver (sym way_is ∙ q)))

        module _ (fw : t.heads + t.olds < max_entries) where
          pub list_head : y ≡ Head → (r : Tally) → r ≡ with_head limit p t k v 0 → Lists l p next limit budget (at + 2 + k + 16 + v) true (at + 2) k r g
          list_head q r e =
              let o = way_head ord (newer_than x.ver ent.ver) (sym way_is ∙ q) in
              let s = add_head (listed l 0) rest p next limit budget t g h.adds ent (entries l [] on) fd.list k v 0 key-long fd.vlen kept-is list-key list-val fw (old-is ∙ ap is_equal o) r e in
              record {
                climbs = climb_on (listed l 0) rest seen x h.climbs ent (entries l [] on) fd.list ord ord_is (rw o refl) (prior l (at + 2) k) key-is ver-is;
                adds = s;
                well = sym fd.well ∙ h.well;
                few = s.few;
                behind = omega arith;
              }

          pub list-old : y ≡ Old → limit ≤ max_limit → budget ≤ max_budget → (r : Tally) → r ≡ with_old limit t v 0 → (d : Cut)
              → d ≡ cut_with budget g (12 + size_of false limit v + 4) (remote_len limit v 0) → Lists l p next limit budget (at + 2 + k + 16 + v) true (at + 2) k r d
          list-old q lh bh r e d ed =
              let o = way_old ord (newer_than x.ver ent.ver) (sym way_is ∙ q) in
              let s = add_old (listed l 0) rest p next limit budget t g h.adds ent (entries l [] on) fd.list k v 0 key-long fd.vlen kept-is list-key list-val fw lh bh (old-is ∙ ap is_equal o.0) r e d ed in
              record {
                climbs = climb_on (listed l 0) rest seen x h.climbs ent (entries l [] on) fd.list ord ord_is (rw o.0 o.1) (prior l (at + 2) k) key-is ver-is;
                adds = s;
                well = sym fd.well ∙ h.well;
                few = s.few;
                behind = omega arith;
              }
