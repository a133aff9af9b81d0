-- No second answer fits the contract of a call: the number, the words afterwards, and the arena or the walk where one is lent to be written.
-- `Post` is the contract as the check reads it, so a contract that is weakened fails here.
-- Assumes nothing.
use mathlib.Core.Path.{◌≡◌, ◌∙◌, sym}
use mathlib.Core.List.{List}
use Prim.Native.Nat.{ℕ}
use lib.IntN.{ℤ}
use contract.Lifetimes.{Lfts}
use denote.MutBor.{MutBor}
use denote.Ref.{Bor}
use denote.Triple.Clauses.{AtExit}
use Rattle.spans.specs.Only.{Decides, decides}
use Rattle.capi.specs.contracts.ct_calc_prefix as calc_prefix_fn
use Rattle.capi.proofs.ct_calc_prefix.Reads as calc_prefix
use Rattle.capi.specs.contracts.ct_new_leaf as new_leaf_fn
use Rattle.capi.proofs.ct_new_leaf.Reads as new_leaf
use Rattle.capi.specs.contracts.ct_new_intl as new_intl_fn
use Rattle.capi.proofs.ct_new_intl.Reads as new_intl
use Rattle.capi.specs.contracts.ct_merge as merge_fn
use Rattle.capi.proofs.ct_merge.Reads as merge
use Rattle.capi.specs.contracts.ct_delta_leaf as delta_leaf_fn
use Rattle.capi.proofs.ct_delta_leaf.Reads as delta_leaf
use Rattle.capi.specs.contracts.ct_delta_index as delta_index_fn
use Rattle.capi.proofs.ct_delta_index.Reads as delta_index
use Rattle.capi.specs.contracts.ct_check as check_fn
use Rattle.capi.proofs.ct_check.Reads as check
use Rattle.capi.specs.contracts.ct_page as page_fn
use Rattle.capi.proofs.ct_page.Reads as page
use Rattle.capi.specs.contracts.ct_history_hints as history-hints_fn
use Rattle.capi.proofs.ct_history_hints.Reads as history-hints
use Rattle.capi.specs.contracts.ct_remote_hints as remote-hints_fn
use Rattle.capi.proofs.ct_remote_hints.Reads as remote-hints
use Rattle.capi.specs.contracts.ct_hint as hint_fn
use Rattle.capi.proofs.ct_hint.Reads as hint
use Rattle.capi.specs.contracts.ct_search as search_fn
use Rattle.capi.proofs.ct_search.Reads as search
use Rattle.capi.specs.contracts.ct_as_of as as_of_fn
use Rattle.capi.proofs.ct_as_of.Reads as as_of
use Rattle.capi.specs.contracts.ct_lower_bound as lower_bound_fn
use Rattle.capi.proofs.ct_lower_bound.Reads as lower_bound
use Rattle.capi.specs.contracts.ct_floor as floor_fn
use Rattle.capi.proofs.ct_floor.Reads as floor
use Rattle.capi.specs.contracts.ct_forward as forward_fn
use Rattle.capi.proofs.ct_forward.Reads as forward
use Rattle.capi.specs.contracts.ct_backward as backward_fn
use Rattle.capi.proofs.ct_backward.Reads as backward
use Rattle.capi.specs.contracts.ct_step as step_fn
use Rattle.capi.proofs.ct_step.Reads as step
use Rattle.capi.specs.contracts.ct_steps as steps_fn
use Rattle.capi.proofs.ct_steps.Reads as steps
use Rattle.capi.specs.contracts.ct_delta_key as delta_key_fn
use Rattle.capi.proofs.ct_delta_key.Reads as delta_key
use Rattle.capi.specs.contracts.ct_delta_val as delta_val_fn
use Rattle.capi.proofs.ct_delta_val.Reads as delta_val_lem
use Rattle.capi.specs.contracts.ct_delta_index_key as delta_index_key_fn
use Rattle.capi.proofs.ct_delta_index_key.Reads as delta_index_key
use Rattle.capi.specs.contracts.ct_delta_child as delta_child_fn
use Rattle.capi.proofs.ct_delta_child.Reads as delta_child
use Rattle.capi.specs.contracts.ct_overlay as overlay_fn
use Rattle.capi.proofs.ct_overlay.Reads as overlay

-- a number and what a lent slice holds afterwards; the same with two lent slices
abbrev Both : {X : Type 0} → (ℕ → X → Type 0) → (X → List ℕ) → Type 0
Both {X} P f = (r r' : ℕ) (x x' : X) → P r x → P r' x' → (r ≡ r') × (f x ≡ f x')

both : {X : Type 0} (f : X → List ℕ) (n : ℕ) (v : List ℕ) → Both (λ (r : ℕ) (x : X). (r ≡ n) × (f x ≡ v)) f
both f n v r r' x x' p q = (p.0 ∙ sym q.0, p.1 ∙ sym q.1)

abbrev All : {X : Type 0} → (ℕ → X → Type 0) → (X → List ℕ) → (X → List ℕ) → Type 0
All {X} P f g = (r r' : ℕ) (x x' : X) → P r x → P r' x' → (r ≡ r') × ((f x ≡ f x') × (g x ≡ g x'))

all : {X : Type 0} (f g : X → List ℕ) (n : ℕ) (v w : List ℕ) → All (λ (r : ℕ) (x : X). (r ≡ n) × ((f x ≡ v) × (g x ≡ w))) f g
all f g n v w r r' x x' p q = (p.0 ∙ sym q.0, (p.1.0 ∙ sym q.1.0, p.1.1 ∙ sym q.1.1))

pub calc_prefix_decided : (κs : Lfts 3) (lo hi : Bor (List ℕ)) (out : MutBor (List ℕ)) → Both (λ (r : ℕ) (x : AtExit calc_prefix_fn.ended κs). calc_prefix.Post κs (lo, (hi, (out, tt))) r x) (λ (x : AtExit calc_prefix_fn.ended κs). x.1.1.0.now)
calc_prefix_decided κs lo hi out = both (λ (x : AtExit calc_prefix_fn.ended κs). x.1.1.0.now) _ _

pub new_leaf_decided : (κs : Lfts 5) (a : MutBor (List ℕ)) (next : ℕ) (l lo hi : Bor (List ℕ)) (sibling limit budget group txid lsn ckpt : ℕ) (out : MutBor (List ℕ)) → All (λ (r : ℕ) (x : AtExit new_leaf_fn.ended κs). new_leaf.Post κs (a, (next, (l, (lo, (hi, (sibling, (limit, (budget, (group, (txid, (lsn, (ckpt, (out, tt))))))))))))) r x) (λ (x : AtExit new_leaf_fn.ended κs). x.0.now) (λ (x : AtExit new_leaf_fn.ended κs). x.1.1.1.1.1.1.1.1.1.1.1.1.0.now)
new_leaf_decided κs a next l lo hi sibling limit budget group txid lsn ckpt out = all (λ (x : AtExit new_leaf_fn.ended κs). x.0.now) (λ (x : AtExit new_leaf_fn.ended κs). x.1.1.1.1.1.1.1.1.1.1.1.1.0.now) _ _ _

pub new_intl_decided : (κs : Lfts 5) (a : MutBor (List ℕ)) (next : ℕ) (l lo hi : Bor (List ℕ)) (sibling group txid lsn ckpt : ℕ) (out : MutBor (List ℕ)) → All (λ (r : ℕ) (x : AtExit new_intl_fn.ended κs). new_intl.Post κs (a, (next, (l, (lo, (hi, (sibling, (group, (txid, (lsn, (ckpt, (out, tt))))))))))) r x) (λ (x : AtExit new_intl_fn.ended κs). x.0.now) (λ (x : AtExit new_intl_fn.ended κs). x.1.1.1.1.1.1.1.1.1.1.0.now)
new_intl_decided κs a next l lo hi sibling group txid lsn ckpt out = all (λ (x : AtExit new_intl_fn.ended κs). x.0.now) (λ (x : AtExit new_intl_fn.ended κs). x.1.1.1.1.1.1.1.1.1.1.0.now) _ _ _

pub merge_decided : (κs : Lfts 2) (a : MutBor (List ℕ)) (next left right limit budget group txid lsn ckpt : ℕ) (out : MutBor (List ℕ)) → All (λ (r : ℕ) (x : AtExit merge_fn.ended κs). merge.Post κs (a, (next, (left, (right, (limit, (budget, (group, (txid, (lsn, (ckpt, (out, tt))))))))))) r x) (λ (x : AtExit merge_fn.ended κs). x.0.now) (λ (x : AtExit merge_fn.ended κs). x.1.1.1.1.1.1.1.1.1.1.0.now)
merge_decided κs a next left right limit budget group txid lsn ckpt out = all (λ (x : AtExit merge_fn.ended κs). x.0.now) (λ (x : AtExit merge_fn.ended κs). x.1.1.1.1.1.1.1.1.1.1.0.now) _ _ _

pub delta_leaf_decided : (κs : Lfts 4) (a : MutBor (List ℕ)) (next limit group lsn ckpt txid cmd : ℕ) (key value : Bor (List ℕ)) (out : MutBor (List ℕ)) → All (λ (r : ℕ) (x : AtExit delta_leaf_fn.ended κs). delta_leaf.Post κs (a, (next, (limit, (group, (lsn, (ckpt, (txid, (cmd, (key, (value, (out, tt))))))))))) r x) (λ (x : AtExit delta_leaf_fn.ended κs). x.0.now) (λ (x : AtExit delta_leaf_fn.ended κs). x.1.1.1.1.1.1.1.1.1.1.0.now)
delta_leaf_decided κs a next limit group lsn ckpt txid cmd key value out = all (λ (x : AtExit delta_leaf_fn.ended κs). x.0.now) (λ (x : AtExit delta_leaf_fn.ended κs). x.1.1.1.1.1.1.1.1.1.1.0.now) _ _ _

pub delta_index_decided : (κs : Lfts 3) (a : MutBor (List ℕ)) (next group txid lsn ckpt : ℕ) (key : Bor (List ℕ)) (page : ℕ) (out : MutBor (List ℕ)) → All (λ (r : ℕ) (x : AtExit delta_index_fn.ended κs). delta_index.Post κs (a, (next, (group, (txid, (lsn, (ckpt, (key, (page, (out, tt))))))))) r x) (λ (x : AtExit delta_index_fn.ended κs). x.0.now) (λ (x : AtExit delta_index_fn.ended κs). x.1.1.1.1.1.1.1.1.0.now)
delta_index_decided κs a next group txid lsn ckpt key page out = all (λ (x : AtExit delta_index_fn.ended κs). x.0.now) (λ (x : AtExit delta_index_fn.ended κs). x.1.1.1.1.1.1.1.1.0.now) _ _ _

pub check_decided : (κs : Lfts 1) (s : Bor (List ℕ)) (at : ℕ) (x : AtExit check_fn.ended κs) → Decides (λ (r : ℕ). check.Post κs (s, (at, tt)) r x) (λ (r : ℕ). r)
check_decided κs s at x = decides (λ (r : ℕ). r) _

pub page_decided : (κs : Lfts 2) (s : Bor (List ℕ)) (at : ℕ) (out : MutBor (List ℕ)) → Both (λ (r : ℕ) (x : AtExit page_fn.ended κs). page.Post κs (s, (at, (out, tt))) r x) (λ (x : AtExit page_fn.ended κs). x.1.1.0.now)
page_decided κs s at out = both (λ (x : AtExit page_fn.ended κs). x.1.1.0.now) _ _

pub history-hints_decided : (κs : Lfts 2) (s : Bor (List ℕ)) (at : ℕ) (out : MutBor (List ℕ)) → Both (λ (r : ℕ) (x : AtExit history-hints_fn.ended κs). history-hints.Post κs (s, (at, (out, tt))) r x) (λ (x : AtExit history-hints_fn.ended κs). x.1.1.0.now)
history-hints_decided κs s at out = both (λ (x : AtExit history-hints_fn.ended κs). x.1.1.0.now) _ _

pub remote-hints_decided : (κs : Lfts 2) (s : Bor (List ℕ)) (at : ℕ) (out : MutBor (List ℕ)) → Both (λ (r : ℕ) (x : AtExit remote-hints_fn.ended κs). remote-hints.Post κs (s, (at, (out, tt))) r x) (λ (x : AtExit remote-hints_fn.ended κs). x.1.1.0.now)
remote-hints_decided κs s at out = both (λ (x : AtExit remote-hints_fn.ended κs). x.1.1.0.now) _ _

pub hint_decided : (κs : Lfts 2) (s : Bor (List ℕ)) (at n k : ℕ) (out : MutBor (List ℕ)) → Both (λ (r : ℕ) (x : AtExit hint_fn.ended κs). hint.Post κs (s, (at, (n, (k, (out, tt))))) r x) (λ (x : AtExit hint_fn.ended κs). x.1.1.1.1.0.now)
hint_decided κs s at n k out = both (λ (x : AtExit hint_fn.ended κs). x.1.1.1.1.0.now) _ _

pub search_decided : (κs : Lfts 3) (s : Bor (List ℕ)) (at : ℕ) (key : Bor (List ℕ)) (out : MutBor (List ℕ)) → Both (λ (r : ℕ) (x : AtExit search_fn.ended κs). search.Post κs (s, (at, (key, (out, tt)))) r x) (λ (x : AtExit search_fn.ended κs). x.1.1.1.0.now)
search_decided κs s at key out = both (λ (x : AtExit search_fn.ended κs). x.1.1.1.0.now) _ _

pub as_of_decided : (κs : Lfts 3) (s : Bor (List ℕ)) (at : ℕ) (key : Bor (List ℕ)) (txid cmd : ℕ) (out : MutBor (List ℕ)) → Both (λ (r : ℕ) (x : AtExit as_of_fn.ended κs). as_of.Post κs (s, (at, (key, (txid, (cmd, (out, tt)))))) r x) (λ (x : AtExit as_of_fn.ended κs). x.1.1.1.1.1.0.now)
as_of_decided κs s at key txid cmd out = both (λ (x : AtExit as_of_fn.ended κs). x.1.1.1.1.1.0.now) _ _

pub lower_bound_decided : (κs : Lfts 3) (s : Bor (List ℕ)) (at : ℕ) (key : Bor (List ℕ)) (txid cmd : ℕ) (out : MutBor (List ℕ)) → Both (λ (r : ℕ) (x : AtExit lower_bound_fn.ended κs). lower_bound.Post κs (s, (at, (key, (txid, (cmd, (out, tt)))))) r x) (λ (x : AtExit lower_bound_fn.ended κs). x.1.1.1.1.1.0.now)
lower_bound_decided κs s at key txid cmd out = both (λ (x : AtExit lower_bound_fn.ended κs). x.1.1.1.1.1.0.now) _ _

pub floor_decided : (κs : Lfts 3) (s : Bor (List ℕ)) (at : ℕ) (key : Bor (List ℕ)) (out : MutBor (List ℕ)) → Both (λ (r : ℕ) (x : AtExit floor_fn.ended κs). floor.Post κs (s, (at, (key, (out, tt)))) r x) (λ (x : AtExit floor_fn.ended κs). x.1.1.1.0.now)
floor_decided κs s at key out = both (λ (x : AtExit floor_fn.ended κs). x.1.1.1.0.now) _ _

pub forward_decided : (κs : Lfts 2) (s : Bor (List ℕ)) (at i j : ℕ) (walk : MutBor (List ℕ)) → Both (λ (r : ℕ) (x : AtExit forward_fn.ended κs). forward.Post κs (s, (at, (i, (j, (walk, tt))))) r x) (λ (x : AtExit forward_fn.ended κs). x.1.1.1.1.0.now)
forward_decided κs s at i j walk = both (λ (x : AtExit forward_fn.ended κs). x.1.1.1.1.0.now) _ _

pub backward_decided : (κs : Lfts 2) (s : Bor (List ℕ)) (at : ℕ) (i j : ℤ) (walk : MutBor (List ℕ)) → Both (λ (r : ℕ) (x : AtExit backward_fn.ended κs). backward.Post κs (s, (at, (i, (j, (walk, tt))))) r x) (λ (x : AtExit backward_fn.ended κs). x.1.1.1.1.0.now)
backward_decided κs s at i j walk = both (λ (x : AtExit backward_fn.ended κs). x.1.1.1.1.0.now) _ _

pub step_decided : (κs : Lfts 3) (s : Bor (List ℕ)) (walk out : MutBor (List ℕ)) → All (λ (r : ℕ) (x : AtExit step_fn.ended κs). step.Post κs (s, (walk, (out, tt))) r x) (λ (x : AtExit step_fn.ended κs). x.1.0.now) (λ (x : AtExit step_fn.ended κs). x.1.1.0.now)
step_decided κs s walk out = all (λ (x : AtExit step_fn.ended κs). x.1.0.now) (λ (x : AtExit step_fn.ended κs). x.1.1.0.now) _ _ _

pub steps_decided : (κs : Lfts 3) (s : Bor (List ℕ)) (walk out : MutBor (List ℕ)) → All (λ (r : ℕ) (x : AtExit steps_fn.ended κs). steps.Post κs (s, (walk, (out, tt))) r x) (λ (x : AtExit steps_fn.ended κs). x.1.0.now) (λ (x : AtExit steps_fn.ended κs). x.1.1.0.now)
steps_decided κs s walk out = all (λ (x : AtExit steps_fn.ended κs). x.1.0.now) (λ (x : AtExit steps_fn.ended κs). x.1.1.0.now) _ _ _

pub delta_key_decided : (κs : Lfts 2) (s : Bor (List ℕ)) (at : ℕ) (out : MutBor (List ℕ)) → Both (λ (r : ℕ) (x : AtExit delta_key_fn.ended κs). delta_key.Post κs (s, (at, (out, tt))) r x) (λ (x : AtExit delta_key_fn.ended κs). x.1.1.0.now)
delta_key_decided κs s at out = both (λ (x : AtExit delta_key_fn.ended κs). x.1.1.0.now) _ _

pub delta_val_decided : (κs : Lfts 2) (s : Bor (List ℕ)) (at : ℕ) (out : MutBor (List ℕ)) → Both (λ (r : ℕ) (x : AtExit delta_val_fn.ended κs). delta_val_lem.Post κs (s, (at, (out, tt))) r x) (λ (x : AtExit delta_val_fn.ended κs). x.1.1.0.now)
delta_val_decided κs s at out = both (λ (x : AtExit delta_val_fn.ended κs). x.1.1.0.now) _ _

pub delta_index_key_decided : (κs : Lfts 2) (s : Bor (List ℕ)) (at : ℕ) (out : MutBor (List ℕ)) → Both (λ (r : ℕ) (x : AtExit delta_index_key_fn.ended κs). delta_index_key.Post κs (s, (at, (out, tt))) r x) (λ (x : AtExit delta_index_key_fn.ended κs). x.1.1.0.now)
delta_index_key_decided κs s at out = both (λ (x : AtExit delta_index_key_fn.ended κs). x.1.1.0.now) _ _

pub delta_child_decided : (κs : Lfts 2) (s : Bor (List ℕ)) (at : ℕ) (out : MutBor (List ℕ)) → Both (λ (r : ℕ) (x : AtExit delta_child_fn.ended κs). delta_child.Post κs (s, (at, (out, tt))) r x) (λ (x : AtExit delta_child_fn.ended κs). x.1.1.0.now)
delta_child_decided κs s at out = both (λ (x : AtExit delta_child_fn.ended κs). x.1.1.0.now) _ _

pub overlay_decided : (κs : Lfts 4) (s : Bor (List ℕ)) (at : ℕ) (t : Bor (List ℕ)) (d : ℕ) (key : Bor (List ℕ)) (out : MutBor (List ℕ)) → Both (λ (r : ℕ) (x : AtExit overlay_fn.ended κs). overlay.Post κs (s, (at, (t, (d, (key, (out, tt)))))) r x) (λ (x : AtExit overlay_fn.ended κs). x.1.1.1.1.1.0.now)
overlay_decided κs s at t d key out = both (λ (x : AtExit overlay_fn.ended κs). x.1.1.1.1.1.0.now) _ _
