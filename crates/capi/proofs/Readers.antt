-- Each call that reads a page, a walk or a delta answers 0 or 4, by its own contract: 7 is no answer of theirs, nor any other number. (ct_calc_prefix and ct_hint
-- answer 0 always.)
-- Assumes nothing.
use mathlib.Core.Path.{◌≡◌, sym, subst}
use mathlib.Core.List.{List}
use Prim.Native.Nat.{ℕ}
use lib.IntN.{ℤ}
use lib.ListN.{length}
use contract.Lifetimes.{Lfts}
use denote.MutBor.{MutBor}
use denote.Ref.{Bor}
use denote.Triple.Clauses.{AtExit}
use Rattle.order.specs.Version.{ver_of}
use Rattle.frames.specs.Refusals.{ZeroOrFour}
use Rattle.frames.specs.Layout.{addr}
use Rattle.pages.proofs.Numbers.{check_number, bounds-number, history-hints-number, remote-hints-number}
use Rattle.walks.proofs.Numbers.{forward_number, backward_number, step_number_lem}
use Rattle.sst.proofs.Numbers.{lower_number, floor_number_lem, search_number}
use Rattle.c_words.specs.Words.{walk_in}
use Rattle.c_steps.proofs.Numbers.{steps-number}
use Rattle.asof.proofs.Numbers.{as_of_number_lem}
use Rattle.delta.proofs.Numbers.{leaf_key-number, index_key-number, value-number, child-number}
use Rattle.overlay.proofs.Numbers.{overlay-number}
use Rattle.capi.specs.contracts.ct_check as check_fn
use Rattle.capi.proofs.ct_check.Reads as check
use Rattle.capi.specs.contracts.ct_page as page_fn
use Rattle.capi.proofs.ct_page.Reads as page
use Rattle.capi.specs.contracts.ct_history_hints as history-hints_fn
use Rattle.capi.proofs.ct_history_hints.Reads as history-hints
use Rattle.capi.specs.contracts.ct_remote_hints as remote-hints_fn
use Rattle.capi.proofs.ct_remote_hints.Reads as remote-hints
use Rattle.capi.specs.contracts.ct_search as search_fn
use Rattle.capi.proofs.ct_search.Reads as search
use Rattle.capi.specs.contracts.ct_as_of as as_of_fn
use Rattle.capi.proofs.ct_as_of.Reads as as_of
use Rattle.capi.specs.contracts.ct_lower_bound as lower_bound_fn
use Rattle.capi.proofs.ct_lower_bound.Reads as lower_bound
use Rattle.capi.specs.contracts.ct_floor as floor_fn
use Rattle.capi.proofs.ct_floor.Reads as floor
use Rattle.capi.specs.contracts.ct_forward as forward_fn
use Rattle.capi.proofs.ct_forward.Reads as forward
use Rattle.capi.specs.contracts.ct_backward as backward_fn
use Rattle.capi.proofs.ct_backward.Reads as backward
use Rattle.capi.specs.contracts.ct_step as step_fn
use Rattle.capi.proofs.ct_step.Reads as step
use Rattle.capi.specs.contracts.ct_steps as steps_fn
use Rattle.capi.proofs.ct_steps.Reads as steps
use Rattle.capi.specs.contracts.ct_delta_key as delta_key_fn
use Rattle.capi.proofs.ct_delta_key.Reads as delta_key
use Rattle.capi.specs.contracts.ct_delta_val as delta_val_fn
use Rattle.capi.proofs.ct_delta_val.Reads as delta_val_lem
use Rattle.capi.specs.contracts.ct_delta_index_key as delta_index_key_fn
use Rattle.capi.proofs.ct_delta_index_key.Reads as delta_index_key
use Rattle.capi.specs.contracts.ct_delta_child as delta_child_fn
use Rattle.capi.proofs.ct_delta_child.Reads as delta_child
use Rattle.capi.specs.contracts.ct_overlay as overlay_fn
use Rattle.capi.proofs.ct_overlay.Reads as overlay

abbrev Reads : {X : Type 0} → (ℕ → X → Type 0) → Type 0
Reads {X} P = (r : ℕ) (x : X) → P r x → ZeroOrFour r

pub check_reads : (κs : Lfts 1) (s : Bor (List ℕ)) (at : ℕ) → Reads (λ (r : ℕ) (x : AtExit check_fn.ended κs). check.Post κs (s, (at, tt)) r x)
check_reads κs s at r x p = subst ZeroOrFour (sym p) (check_number s.now (addr at))

pub page_reads : (κs : Lfts 2) (s : Bor (List ℕ)) (at : ℕ) (out : MutBor (List ℕ)) → Reads (λ (r : ℕ) (x : AtExit page_fn.ended κs). page.Post κs (s, (at, (out, tt))) r x)
page_reads κs s at out r x p = subst ZeroOrFour (sym p.0) (bounds-number s.now (addr at))

pub history-hints_reads : (κs : Lfts 2) (s : Bor (List ℕ)) (at : ℕ) (out : MutBor (List ℕ)) → Reads (λ (r : ℕ) (x : AtExit history-hints_fn.ended κs). history-hints.Post κs (s, (at, (out, tt))) r x)
history-hints_reads κs s at out r x p = subst ZeroOrFour (sym p.0) (history-hints-number s.now (addr at))

pub remote-hints_reads : (κs : Lfts 2) (s : Bor (List ℕ)) (at : ℕ) (out : MutBor (List ℕ)) → Reads (λ (r : ℕ) (x : AtExit remote-hints_fn.ended κs). remote-hints.Post κs (s, (at, (out, tt))) r x)
remote-hints_reads κs s at out r x p = subst ZeroOrFour (sym p.0) (remote-hints-number s.now (addr at))

pub search_reads : (κs : Lfts 3) (s : Bor (List ℕ)) (at : ℕ) (key : Bor (List ℕ)) (out : MutBor (List ℕ)) → Reads (λ (r : ℕ) (x : AtExit search_fn.ended κs). search.Post κs (s, (at, (key, (out, tt)))) r x)
search_reads κs s at key out r x p = subst ZeroOrFour (sym p.0) (search_number s.now (addr at) key.now)

pub as_of_reads : (κs : Lfts 3) (s : Bor (List ℕ)) (at : ℕ) (key : Bor (List ℕ)) (txid cmd : ℕ) (out : MutBor (List ℕ)) → Reads (λ (r : ℕ) (x : AtExit as_of_fn.ended κs). as_of.Post κs (s, (at, (key, (txid, (cmd, (out, tt)))))) r x)
as_of_reads κs s at key txid cmd out r x p = subst ZeroOrFour (sym p.0) (as_of_number_lem s.now (addr at) key.now (ver_of txid cmd))

pub lower_bound_reads : (κs : Lfts 3) (s : Bor (List ℕ)) (at : ℕ) (key : Bor (List ℕ)) (txid cmd : ℕ) (out : MutBor (List ℕ)) → Reads (λ (r : ℕ) (x : AtExit lower_bound_fn.ended κs). lower_bound.Post κs (s, (at, (key, (txid, (cmd, (out, tt)))))) r x)
lower_bound_reads κs s at key txid cmd out r x p = subst ZeroOrFour (sym p.0) (lower_number s.now (addr at) key.now (ver_of txid cmd))

pub floor_reads_lem : (κs : Lfts 3) (s : Bor (List ℕ)) (at : ℕ) (key : Bor (List ℕ)) (out : MutBor (List ℕ)) → Reads (λ (r : ℕ) (x : AtExit floor_fn.ended κs). floor.Post κs (s, (at, (key, (out, tt)))) r x)
floor_reads_lem κs s at key out r x p = subst ZeroOrFour (sym p.0) (floor_number_lem s.now (addr at) key.now)

pub forward_reads : (κs : Lfts 2) (s : Bor (List ℕ)) (at i j : ℕ) (walk : MutBor (List ℕ)) → Reads (λ (r : ℕ) (x : AtExit forward_fn.ended κs). forward.Post κs (s, (at, (i, (j, (walk, tt))))) r x)
forward_reads κs s at i j walk r x p = subst ZeroOrFour (sym p.0) (forward_number s.now (addr at) i j)

pub backward_reads : (κs : Lfts 2) (s : Bor (List ℕ)) (at : ℕ) (i j : ℤ) (walk : MutBor (List ℕ)) → Reads (λ (r : ℕ) (x : AtExit backward_fn.ended κs). backward.Post κs (s, (at, (i, (j, (walk, tt))))) r x)
backward_reads κs s at i j walk r x p = subst ZeroOrFour (sym p.0) (backward_number s.now (addr at) i j)

pub step_reads : (κs : Lfts 3) (s : Bor (List ℕ)) (walk out : MutBor (List ℕ)) → Reads (λ (r : ℕ) (x : AtExit step_fn.ended κs). step.Post κs (s, (walk, (out, tt))) r x)
step_reads κs s walk out r x p = subst ZeroOrFour (sym p.0) (step_number_lem s.now (walk_in walk.now))

pub steps_reads : (κs : Lfts 3) (s : Bor (List ℕ)) (walk out : MutBor (List ℕ)) → Reads (λ (r : ℕ) (x : AtExit steps_fn.ended κs). steps.Post κs (s, (walk, (out, tt))) r x)
steps_reads κs s walk out r x p = subst ZeroOrFour (sym p.0) (steps-number s.now walk.now (length out.now))

pub delta_key_reads : (κs : Lfts 2) (s : Bor (List ℕ)) (at : ℕ) (out : MutBor (List ℕ)) → Reads (λ (r : ℕ) (x : AtExit delta_key_fn.ended κs). delta_key.Post κs (s, (at, (out, tt))) r x)
delta_key_reads κs s at out r x p = subst ZeroOrFour (sym p.0) (leaf_key-number s.now (addr at))

pub delta_val_reads : (κs : Lfts 2) (s : Bor (List ℕ)) (at : ℕ) (out : MutBor (List ℕ)) → Reads (λ (r : ℕ) (x : AtExit delta_val_fn.ended κs). delta_val_lem.Post κs (s, (at, (out, tt))) r x)
delta_val_reads κs s at out r x p = subst ZeroOrFour (sym p.0) (value-number s.now (addr at))

pub delta_index_key_reads : (κs : Lfts 2) (s : Bor (List ℕ)) (at : ℕ) (out : MutBor (List ℕ)) → Reads (λ (r : ℕ) (x : AtExit delta_index_key_fn.ended κs). delta_index_key.Post κs (s, (at, (out, tt))) r x)
delta_index_key_reads κs s at out r x p = subst ZeroOrFour (sym p.0) (index_key-number s.now (addr at))

pub delta_child_reads : (κs : Lfts 2) (s : Bor (List ℕ)) (at : ℕ) (out : MutBor (List ℕ)) → Reads (λ (r : ℕ) (x : AtExit delta_child_fn.ended κs). delta_child.Post κs (s, (at, (out, tt))) r x)
delta_child_reads κs s at out r x p = subst ZeroOrFour (sym p.0) (child-number s.now (addr at))

pub overlay_reads : (κs : Lfts 4) (s : Bor (List ℕ)) (at : ℕ) (t : Bor (List ℕ)) (d : ℕ) (key : Bor (List ℕ)) (out : MutBor (List ℕ)) → Reads (λ (r : ℕ) (x : AtExit overlay_fn.ended κs). overlay.Post κs (s, (at, (t, (d, (key, (out, tt)))))) r x)
overlay_reads κs s at t d key out r x p = subst ZeroOrFour (sym p.0) (overlay-number s.now (addr at) t.now (addr d) key.now)
