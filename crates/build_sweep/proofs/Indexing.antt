-- The sweep over an index list: where it stands, in numbers.
-- Assumes nothing.
use mathlib.Core.Path.{◌≡◌, refl, sym, ap, ◌∙◌}
use mathlib.Core.List.{List, []}
use mathlib.Core.Bool.{Bool, true, false, cond}
use Prim.Native.Nat.{ℕ, ◌+◌, ◌-◌, ◌*◌, ◌≤◌, ◌<◌}
use native.Mathlib.Omega.{arith}
use lib.ListN.{length}
use lib.Dec.{leb}
use borrow.Author.Tests.{leb-true}
use Rattle.spans.proofs.Tests.{ask}
use Rattle.numbers.specs.Number.{be_at}
use Rattle.spans.specs.Span.{part_or}
use Rattle.order.specs.Order.{cmp_bytes, is_less}
use Rattle.order.specs.Version.{ver_of, newer_than}
use Rattle.frames.specs.Limits.{max_entries, max_key}
use Rattle.values.specs.Keys.{index_key_size}
use Rattle.lengths.proofs.Laws.{uleb-few}
use Rattle.build_sources.specs.declared.Cursor.{Cursor}
use Rattle.build_sources.specs.declared.EntryAt.{EntryAt}
use Rattle.build_sources.specs.Lists.{first_of, index_item}
use Rattle.build_sources.specs.Source.{Entry, entry_of, entries, well_formed}
use Rattle.build_sources.specs.Judged.{above_by}
use Rattle.build_sources.proofs.Sourced.{Found, found, ended, odd}
use Rattle.build_image.specs.Image.{index_key_len, index_sums}
use Rattle.build_sweep.specs.Ents.{index_ent_at, order_at}
use Rattle.build_sweep.specs.Swept.{listed, plain, IndexAccepted}
use Rattle.build_sweep.proofs.Ents.{here, index_at_lem, index_out, index_end_lem, key-bare}
use Rattle.build_sweep.proofs.Plain.{not_well, not_rising, not_few}
use Rattle.build_sweep.proofs.Sweeping.{Climbing, climb_begin, climb_up, climb_last, climb_falls, climb_on}
use Rattle.std.proofs.Common.{Option, Some, None}
use Rattle.std.specs.declared.cmp.Ordering.{Ordering}

-- the entry before, by all that the order asks of it
abbrev pub prior_key : List ℕ → ℕ → ℕ → Entry
prior_key l kat klen = record { old = false; key = part_or l kat klen; ver = ver_of 0 0; val = []; kept = 0; page = 0 }

pub record Indexes (l : List ℕ) (p at : ℕ) (seen : Bool) (kat klen n s : ℕ) : Type 0 where
  pub climbs : Climbing (listed l 1) (entries l [] (here 1 at seen kat klen)) seen (prior_key l kat klen)
  pub well : well_formed l [] (here 1 at seen kat klen) ≡ well_formed l [] (first_of 1)
  pub count : n + length (entries l [] (here 1 at seen kat klen)) ≡ length (listed l 1)
  pub sums : s + index_sums p (entries l [] (here 1 at seen kat klen)) ≡ index_sums p (listed l 1)
  pub few : n ≤ max_entries
  pub small : s ≤ 4109 * n
  pub behind : kat + klen ≤ at

pub index_begin : (l : List ℕ) (p : ℕ) → Indexes l p 5 false 0 0 0 0
index_begin l p =
    record { climbs = climb_begin (listed l 1) (prior_key l 0 0); well = refl; count = omega arith; sums = omega arith; few = omega arith; small = omega arith; behind = omega arith }

sums_nil : (p : ℕ) (es : List Entry) → es ≡ [] → index_sums p es ≡ 0
unfolding index_sums
sums_nil p es e = rw e refl

key-few : (n : ℕ) → index_key_size n ≤ 5 + n
unfolding index_key_size
key-few n = omega (arith, uleb-few n)

-- versions of one page's keys are the same: a key is above another where it is greater
above-less : (o : Ordering) → is_less o ≡ false → above_by o (ver_of 0 0) (ver_of 0 0) ≡ false
unfolding newer_than
above-less Ordering.Less e = absurd (let z : ◌≡◌ {A = ℕ} 0 1 = cc in omega arith)
above-less Ordering.Equal e = refl
above-less Ordering.Greater e = refl

less-above : (o : Ordering) → is_less o ≡ true → above_by o (ver_of 0 0) (ver_of 0 0) ≡ true
less-above Ordering.Less e = refl
less-above Ordering.Equal e = absurd (let z : ◌≡◌ {A = ℕ} 0 1 = cc in omega arith)
less-above Ordering.Greater e = absurd (let z : ◌≡◌ {A = ℕ} 0 1 = cc in omega arith)

no_ent : {k v : ℕ} → ◌≡◌ {A = Option (ℕ × ℕ)} None (Some (k, v)) → ⊥
no_ent e = let z : ◌≡◌ {A = ℕ} 0 1 = cc in omega arith

-- where it ends
ent-room : (s : List ℕ) (at k v : ℕ) → Some (k, v) ≡ index_ent_at s at → at + 2 + (k + 8) ≤ length s
unfolding index_ent_at
ent-room s at k v e =
    let j = be_at 2 s at in
    let a₁ = ask (leb (at + 2) (length s)) _ None (Some (k, v)) no_ent (sym e) in
    let a₂ = ask (leb j max_key) _ None (Some (k, v)) no_ent a₁.1 in
    let a₃ = ask (leb (at + 2 + (j + 8)) (length s)) (Some (j, 0)) None (Some (k, v)) no_ent a₂.1 in
    let q : k ≡ be_at 2 s at = let z = a₃.1 in grind arith in
    let h : at + 2 + (be_at 2 s at + 8) ≤ length s = leb-true _ _ a₃.0 in
    omega (arith, q, h)

module _ (l : List ℕ) (p at : ℕ) (seen : Bool) (kat klen n s : ℕ) (h : Indexes l p at seen kat klen n s) where
  abbrev c : Cursor
  c = here 1 at seen kat klen

  abbrev rest : List Entry
  rest = entries l [] c

  abbrev x : Entry
  x = prior_key l kat klen

  pub index_whole : length l ≤ at → IndexAccepted l p n s kat klen
  index_whole q =
      let e = ended l [] c (index_end_lem l [] at seen kat klen q) in
      record {
        ended =
            record {
              well = sym h.well ∙ e.1;
              rises = climb_up (listed l 1) rest seen x h.climbs e.0;
              count = omega (arith, h.count, ap length e.0);
              few = h.few;
              last = climb_last (listed l 1) rest seen x h.climbs e.0;
            };
        sums = omega (arith, h.sums, sums_nil p rest e.0);
        small = omega (arith, h.small, h.few);
      }

  module _ (lt : at < length l) where
    pub index_bad : None ≡ index_ent_at l at → plain l 1 ≡ false
    index_bad q = not_well l 1 (sym h.well ∙ (odd l [] c (index_out l [] at seen kat klen lt q)).1)

    module _ (k v : ℕ) (en : Some (k, v) ≡ index_ent_at l at) where
      abbrev it : EntryAt
      it = index_item l c k

      abbrev on : Cursor
      on = here 1 (at + 2 + k + 8) true (at + 2) k

      abbrev ent : Entry
      ent = entry_of l [] it

      fd : Found l [] c it on
      fd = found l [] c it on (index_at_lem l [] at seen kat klen lt k v en)

      pub index_many : max_entries ≤ n → plain l 1 ≡ false
      index_many q = not_few l 1 (omega (arith, h.count, ap length fd.list, q))

      pub index_key_lem : k ≤ max_key
      index_key_lem = omega (arith, fd.placed.ksmall)

      key-is : ent.key ≡ part_or l (at + 2) k
      unfolding entry_of
      key-is = key-bare l (at + 2) k

      ver-is : ent.ver ≡ ver_of 0 0
      unfolding entry_of
      ver-is = refl

      pub index_fits : at + 2 + k + 8 ≤ length l
      index_fits = omega (arith, ent-room l at k v en)

      pub index_less : length l - (at + 2 + k + 8) < length l - at
      index_less = omega arith

      sums_on : index_sums p rest ≡ index_key_len p k + 8 + index_sums p (entries l [] on)
      unfolding index_sums
      sums_on = ap (index_sums p) fd.list ∙ ap (λ (y : ℕ). index_key_len p y + 8 + index_sums p (entries l [] on)) (fd.klen ∙ omega arith)

      module _ (o : Ordering) (eo : o ≡ order_at l seen kat klen (at + 2) k) (b : Bool) (eb : b ≡ is_less o) where
        ord_is : o ≡ cond seen (cmp_bytes x.key ent.key) Ordering.Less
        unfolding order_at
        ord_is = eo ∙ rw key-is refl

        pub index_falls : b ≡ false → plain l 1 ≡ false
        index_falls q =
            not_rising l 1
            (climb_falls (listed l 1) rest seen x h.climbs ent (entries l [] on) fd.list o ord_is (ap (above_by o (ver_of 0 0)) ver-is ∙ above-less o (sym eb ∙ q)))

        module _ (d y : ℕ) (ed : d ≡ k - p) (ey : y ≡ index_key_size d) where
          pub index_small : y + 8 ≤ 4109
          index_small = omega (arith, ey, key-few d, ed, index_key_lem)

          len_is : y ≡ index_key_len p k
          unfolding index_key_len
          len_is = ey ∙ ap index_key_size ed

          pub index_on : b ≡ true → n < max_entries → Indexes l p (at + 2 + k + 8) true (at + 2) k (n + 1) (s + (y + 8))
          index_on q fw =
              record {
                climbs =
                    climb_on (listed l 1) rest seen x h.climbs ent (entries l [] on) fd.list o ord_is (ap (above_by o (ver_of 0 0)) ver-is ∙ less-above o (sym eb ∙ q))
                    (prior_key l (at + 2) k) key-is ver-is;
                well = sym fd.well ∙ h.well;
                count = omega (arith, h.count, ap length fd.list);
                sums = omega (arith, h.sums, sums_on, len_is);
                few = omega (arith, fw);
                small = omega (arith, h.small, index_small);
                behind = omega arith;
              }
