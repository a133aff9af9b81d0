-- No second answer fits the contract of a public call. `Post` is the contract as the check reads it, so a contract that is weakened fails here.
-- Assumes nothing.
use mathlib.Core.List.{List, ◌++◌}
use mathlib.Core.Bool.{Bool}
use Prim.Native.Nat.{ℕ}
use contract.Lifetimes.{Lfts}
use denote.Ref.{Bor}
use denote.Triple.Clauses.{AtExit}
use Rattle.spans.specs.Only.{Decides, decides}
use Rattle.std.specs.declared.cmp.Ordering.{Ordering}
use Rattle.order.specs.declared.Ver.{Ver}
use Rattle.order.specs.Order.{cmp_bytes, starts_with}
use Rattle.order.specs.Bounds.{below_by, meet}
use Rattle.order.specs.Version.{ver_of, newer_than}
use Rattle.order.specs.contracts.compare as compare_fn
use Rattle.order.proofs.compare.Reads as compare
use Rattle.order.specs.contracts.starts_with as starts_fn
use Rattle.order.proofs.starts_with.Reads as starts
use Rattle.order.specs.contracts.compare_joined as joined_fn
use Rattle.order.proofs.compare_joined.Reads as joined
use Rattle.order.specs.contracts.below_by as below_fn
use Rattle.order.proofs.below_by.Reads as below
use Rattle.order.specs.contracts.meets as meets_fn
use Rattle.order.proofs.meets.Reads as meets
use Rattle.order.specs.contracts.Ver.new as new_fn
use Rattle.order.proofs.Ver.new.Reads as new
use Rattle.order.specs.contracts.Ver.newer as newer_fn
use Rattle.order.proofs.Ver.newer.Reads as newer

pub compare_decided : (κs : Lfts 2) (a b : Bor (List ℕ)) (e : AtExit compare_fn.ended κs) → Decides (λ (r : Ordering). compare.Post κs (a, (b, tt)) r e) (λ (r : Ordering). r)
compare_decided κs a b e = decides (λ (r : Ordering). r) (cmp_bytes a.now b.now)

pub starts_decided : (κs : Lfts 2) (p s : Bor (List ℕ)) (e : AtExit starts_fn.ended κs) → Decides (λ (r : Bool). starts.Post κs (p, (s, tt)) r e) (λ (r : Bool). r)
starts_decided κs p s e = decides (λ (r : Bool). r) (starts_with p.now s.now)

pub joined_decided : (κs : Lfts 3) (p r x : Bor (List ℕ)) (e : AtExit joined_fn.ended κs) → Decides (λ (o : Ordering). joined.Post κs (p, (r, (x, tt))) o e) (λ (o : Ordering). o)
joined_decided κs p r x e = decides (λ (o : Ordering). o) (cmp_bytes (p.now ++ r.now) x.now)

pub below_decided : (κs : Lfts 1) (c : Ordering) (hi : Bor (List ℕ)) (e : AtExit below_fn.ended κs) → Decides (λ (r : Bool). below.Post κs (c, (hi, tt)) r e) (λ (r : Bool). r)
below_decided κs c hi e = decides (λ (r : Bool). r) (below_by c hi.now)

pub meets_decided : (κs : Lfts 2) (hi lo : Bor (List ℕ)) (e : AtExit meets_fn.ended κs) → Decides (λ (r : Bool). meets.Post κs (hi, (lo, tt)) r e) (λ (r : Bool). r)
meets_decided κs hi lo e = decides (λ (r : Bool). r) (meet hi.now lo.now)

pub new_decided : (t c : ℕ) (e : AtExit new_fn.ended tt) → Decides (λ (r : Ver). new.Post tt (t, (c, tt)) r e) (λ (r : Ver). r)
new_decided t c e = decides (λ (r : Ver). r) (ver_of t c)

pub newer_decided : (v w : Ver) (e : AtExit newer_fn.ended tt) → Decides (λ (r : Bool). newer.Post tt (v, (w, tt)) r e) (λ (r : Bool). r)
newer_decided v w e = decides (λ (r : Bool). r) (newer_than v w)
