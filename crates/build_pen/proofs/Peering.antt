-- Looking ahead along a record list: an old version is chosen, a head is passed over.
-- Assumes nothing.
use mathlib.Core.Path.{◌≡◌, refl, sym, ap, ◌∙◌, subst}
use mathlib.Core.List.{List, [], ◌∷◌}
use mathlib.Core.Bool.{true, false}
use Prim.Native.Nat.{ℕ, ◌+◌, ◌-◌, ◌≤◌, ◌<◌}
use native.Mathlib.Omega.{arith}
use lib.ListN.{length}
use Rattle.frames.specs.Layout.{base_len}
use Rattle.frames.specs.Limits.{max_budget, max_limit, max_value}
use Rattle.values.specs.Vals.{size_of}
use Rattle.build_paging.specs.Cuts.{fits}
use Rattle.build_sources.specs.declared.Cursor.{Cursor}
use Rattle.build_sources.specs.declared.EntryAt.{EntryAt}
use Rattle.build_sources.specs.Lists.{record_item}
use Rattle.build_sources.specs.Source.{Entry, only, olds, Chosen}
use Rattle.build_sources.proofs.Sourced.{chosen}
use Rattle.build_image.specs.Sizes.{remote_len}
use Rattle.build_history.specs.Runs.{run_of}
use Rattle.build_history.proofs.Ahead.{run, run_from, Looking, look_begin, look_end, look_fits, look_full, look_remote, look_turn}
use Rattle.build_pen.specs.declared.RecordAt.{RecordAt}
use Rattle.build_pen.specs.Places.{here, list_behind, Well, Reads, past_of, Inside, entry_in, alike}
use Rattle.build_pen.proofs.Places.{fd, past_is, item_old, end-behind, inside, step_new, step_head, well_past}

pub record Peering (l : List ℕ) (limit budget from bat blen at kat klen n t f : ℕ) : Type 0 where
  pub looks : Looking l [] limit budget (here from true bat blen) (here at true kat klen) n t f
  pub well : Well l at
  pub before : kat + klen ≤ length l

pub peer_begin : (l : List ℕ) (limit budget from bat blen : ℕ) → limit ≤ max_limit → budget ≤ max_budget → Well l from → bat + blen ≤ length l → Peering l limit budget from bat blen from bat blen 0 base_len 0
peer_begin l limit budget from bat blen h k w b = record { looks = look_begin l [] limit budget (here from true bat blen) h k; well = w; before = b }

none_in : (es : List Entry) → es ≡ [] → olds es ≡ []
unfolding only
none_in es e = rw e refl

head_gone : (e : Entry) (es : List Entry) → e.old ≡ false → olds (e ∷ es) ≡ olds es
unfolding only
head_gone e es h = rw h refl

module _ (l : List ℕ) (limit budget from bat blen at kat klen n t f : ℕ) (h : Peering l limit budget from bat blen at kat klen n t f) where
  pub peer_end : length l ≤ at → run n t f false ≡ run_of limit budget (olds (list_behind l from bat blen))
  peer_end q = (look_end l [] limit budget (here from true bat blen) (here at true kat klen) n t f h.looks (none_in (list_behind l at kat klen) (end-behind l at q kat klen))).0

  module _ (lt : at < length l) (i : RecordAt) (r : Reads l at i) where
    abbrev c : Cursor
    c = here at true kat klen

    abbrev it : EntryAt
    it = record_item l c i.klen i.vlen

    abbrev d : Cursor
    d = here (at + 2 + i.klen + 16 + i.vlen) true (at + 2) i.klen

    ins : Inside l i
    ins = inside l at lt i r

    pub peer_past : past_of i ≤ length l
    peer_past = ins.all

    pub peer_key : (kat + klen ≤ length l) × (i.kat + i.klen ≤ length l)
    peer_key = (h.before, omega (arith, ins.all))

    pub peer_val : i.vlen ≤ max_value
    peer_val = ins.val

    pub peer_less : length l - past_of i < length l - at
    peer_less = omega (arith, r.kat, lt)

    -- the place behind, as the code has it
    moved : (n' t' f' : ℕ) → Looking l [] limit budget (here from true bat blen) d n' t' f' → Peering l limit budget from bat blen (past_of i) i.kat i.klen n' t' f'
    moved n' t' f' k =
        record {
          looks =
              subst (λ (x : ℕ). Looking l [] limit budget (here from true bat blen) (here x true i.kat i.klen) n' t' f') (past_is l at lt i r)
              (subst (λ (x : ℕ). Looking l [] limit budget (here from true bat blen) (here (at + 2 + i.klen + 16 + i.vlen) true x i.klen) n' t' f') (sym r.kat) k);
          well = well_past l at lt i r h.well;
          before = omega (arith, ins.all);
        }

    -- a head
    pub peer_skip : alike l kat klen i.kat i.klen ≡ false → Peering l limit budget from bat blen (past_of i) i.kat i.klen n t f
    peer_skip q =
        let e : olds (list_behind l at kat klen) ≡ olds (list_behind l (past_of i) i.kat i.klen) =
        ap olds (step_new l at lt i r kat klen q ∙ step_head l at lt i r) ∙ head_gone (entry_in l false i) (list_behind l (past_of i) i.kat i.klen) refl in
        record {
          looks =
              record {
                goes = ap (run_from limit budget n t f) (sym e) ∙ h.looks.goes;
                rest = sym e ∙ h.looks.rest;
                small = h.looks.small;
                many = h.looks.many;
                first = h.looks.first;
                away = h.looks.away;
                limits = h.looks.limits;
                budgets = h.looks.budgets;
              };
          well = well_past l at lt i r h.well;
          before = omega (arith, ins.all);
        }

    -- an old version
    module _ (q : alike l kat klen i.kat i.klen ≡ true) (x : ℕ) (ex : x ≡ size_of false limit i.vlen) where
      ch : Chosen l [] true c it d
      ch = chosen l [] true c c it d refl (fd l at lt i r true kat klen) (item_old l at lt i r kat klen q)

      pub peer_fits : (5 ≤ x) × (x ≤ 65549)
      peer_fits = look_fits l [] limit budget (here from true bat blen) c n t f h.looks it d ch x ex

      pub peer_full : fits budget n t (12 + x + 4) ≡ false → run n t f true ≡ run_of limit budget (olds (list_behind l from bat blen))
      peer_full z = (look_full l [] limit budget (here from true bat blen) c n t f h.looks it d ch x ex z).0

      module _ (y : ℕ) (ey : y ≡ remote_len limit i.vlen 0) where
        pub peer_remote : y ≤ 65600
        peer_remote = look_remote l [] limit budget (here from true bat blen) c n t f h.looks it d ch x ex y ey

        pub peer_turn : fits budget n t (12 + x + 4) ≡ true → Peering l limit budget from bat blen (past_of i) i.kat i.klen (n + 1) (t + (12 + x + 4)) (f + y)
        peer_turn z = moved (n + 1) (t + (12 + x + 4)) (f + y) (look_turn l [] limit budget (here from true bat blen) c n t f h.looks it d ch x ex y ey z)
