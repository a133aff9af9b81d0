-- What the rows of document 01's table give once they hold: the call and its entries are as the page's laws ask.
-- Assumes nothing.
use Prim.Native.Nat.{ℕ, ◌+◌, ◌^◌, ◌≤◌, ◌<◌}
use mathlib.Core.Path.{◌≡◌}
use mathlib.Core.Bool.{Bool, true}
use mathlib.Core.List.{List}
use native.Mathlib.Omega.{arith}
use borrow.Author.Tests.{leb-true}
use lib.ListN.{length, take}
use lib.Seq.{length-take-le}
use lib.Dec.{leb}
use Rattle.frames.specs.Limits.{max_entries, max_key, max_size}
use Rattle.frames.proofs.Frames.{and_l, and_r}
use Rattle.build_sources.specs.Source.{Entry}
use Rattle.build_sources.specs.Marks.{Each, Marked}
use Rattle.build_sources.specs.Judged.{enclosed}
use Rattle.build_image.specs.declared.Call.{Call}
use Rattle.build_image.proofs.Prefix.{common-footing}
use Rattle.build_image.specs.Image.{leaf_size, leaf_room, index_size, Borders}
use Rattle.build_image.specs.Call.{limit_ok, budget_ok, next_ok}
use Rattle.build_image.proofs.Asked.{limit_true, budget_true, next_true}
use Rattle.build_table.specs.Table.{bounds_ok, entry_rows}
use Rattle.build_image.proofs.Tables.{All}
use Rattle.base.specs.Calls.{bounds_from}
use Rattle.law_history.specs.Fit.{Fits, Numbers, CallFits, BoundsFit, Address}
use Rattle.law_leaf.specs.Grouped.{LeafFit}
use Rattle.law_index.specs.Children.{Leads, IndexFit}

-- ---- 1 and 2

pub bounds_fit : (lo hi : List ℕ) (sibling : ℕ) → sibling < 256 ^ 8 → bounds_ok lo hi ≡ true → BoundsFit (bounds_from lo hi sibling)
bounds_fit lo hi sibling id boundaries =
    record {
      lo = leb-true (length lo) max_key (and_l (leb (length lo) max_key) (leb (length hi) max_key) boundaries);
      hi = leb-true (length hi) max_key (and_r (leb (length lo) max_key) (leb (length hi) max_key) boundaries);
      prefix = common-footing lo hi;
      sibling = id;
    }

pub call_fits : (m : Call) → Numbers m → limit_ok m.limit ≡ true → budget_ok m.budget ≡ true → CallFits m
call_fits m numbers limits budgets =
    record {
      limit = (limit_true m.limit limits).1;
      budget = (budget_true m.budget budgets).1;
      numbers = numbers;
    }

pub address : (s : List ℕ) (len next : ℕ) → length s < 256 ^ 8 → next_ok len next ≡ true → Address s next
address s len next word free =
    let given = next_true len next free in
    record { above = given.0; even = given.1; word = word }

-- the same of the arena below the next free address
pub address_below : (a : List ℕ) (next : ℕ) → length a < 256 ^ 8 → next_ok (length a) next ≡ true → Address (take next a) next
address_below a next word free =
    let inside : next ≤ length a = (next_true (length a) next free).2 in
    let short : length (take next a) < 256 ^ 8 = omega (arith, length-take-le next a inside, inside, word) in
    address (take next a) (length a) next short free

-- ---- 6, 7, 10, 8, 9: room is asked of the end, the rest of the entries

module _ (s : List ℕ) (m : Call) (b : Borders) (at : ℕ) (es : List Entry) (meets : Bool) (end len : ℕ) (place : Address s at) (bounds : BoundsFit b) where
  pub leaf_fit : CallFits m → Each (Fits s) es → Marked es → All (entry_rows meets b es (leaf_size m b es + leaf_room m es) end len) → LeafFit s m b at es
  leaf_fit call each marks h =
      let few = h.1.1.1.0 in
      record {
        address = place;
        call = call;
        bounds = bounds;
        each = each;
        marks = marks;
        rises = h.0;
        begins = h.1.0;
        encloses = and_r meets (enclosed b.lo b.hi es) h.1.1.0;
        few = leb-true (length es) max_entries (and_l (leb (length es) max_entries) (leb (leaf_size m b es + leaf_room m es) max_size) few);
        small = leb-true (leaf_size m b es + leaf_room m es) max_size (and_r (leb (length es) max_entries) (leb (leaf_size m b es + leaf_room m es) max_size) few);
      }

  pub index_fit : Numbers m → Each Leads es → All (entry_rows meets b es (index_size b es) end len) → IndexFit s m b at es
  index_fit numbers each h =
      let few = h.1.1.1.0 in
      record {
        address = place;
        numbers = numbers;
        bounds = bounds;
        each = each;
        rises = h.0;
        begins = h.1.0;
        encloses = and_r meets (enclosed b.lo b.hi es) h.1.1.0;
        few = leb-true (length es) max_entries (and_l (leb (length es) max_entries) (leb (index_size b es) max_size) few);
        small = leb-true (index_size b es) max_size (and_r (leb (length es) max_entries) (leb (index_size b es) max_size) few);
      }
