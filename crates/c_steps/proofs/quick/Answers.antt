-- `c_steps::quick` meets its contract. Assumes nothing.
use Rattle.walks.specs.declared.Walk.{Walk}
use Rattle.records.specs.declared.Rec.{Rec}
use Rattle.std.proofs.Common.{Option, Some}
use native.Mathlib.Omega.{arith}
use Prim.Native.Nat.{◌<◌, ℕ}
use mathlib.Core.Path.{subst}
use Rattle.c_steps.specs.Turns.{Heads}
use Rattle.c_steps.proofs.Heading.{plains_head}
use Rattle.c_steps.proofs.Ways.{known_at}
use Rattle.c_steps.proofs.quick.Goals as goal

pub olds-n-requires : goal.olds-n-requires
olds-n-requires c = c.requires.fit_le_room

pub returns-then-n-eq0 : goal.returns-then-n-eq0
returns-then-n-eq0 c = c.olds-n.ensures.out_unchanged c.if-n-eq0.true

pub age-requires : goal.age-requires
age-requires c = let z : 0 < c.olds-n.result = omega (arith, c.if-n-eq0.false) in record {
  n_bound = omega (arith, c.olds-n.ensures.result_bound z, c.well_formed);
  n_le_left = c.olds-n.ensures.upper_bound;
}

pub returns-then-w-gt0 : goal.returns-then-w-gt0
returns-then-w-gt0 c = rw c.age.ensures (c.olds-n.ensures.filling, (known_at c.args.s.now c.args.known c.args.w.older _ _ c.requires.known_older, omega (arith, c.if-n-eq0.false)))

pub plains-x-requires : goal.plains-x-requires
plains-x-requires c = record {
  fit_le_room = c.requires.fit_le_room;
  left_value = omega (arith, c.if-w-gt0.false);
}

pub headed-u-requires : goal.headed-u-requires
headed-u-requires c = c.plains-x.ensures.plains.few

pub returns-then-n-eq0-2 : goal.returns-then-n-eq0-2
returns-then-n-eq0-2 c = c.plains-x.ensures.plains.fresh c.if-n-eq0-2.true

pub returns-in_default : goal.returns-in_default
returns-in_default c = rw c.headed-u.ensures (c.plains-x.ensures.plains.fills, (c.requires.known_older, omega (arith, c.if-n-eq0-2.false)))

pub behind-requires : goal.behind-requires
behind-requires c = record { known_older = rw c.headed-u.ensures c.requires.known_older; ahead = rw c.headed-u.ensures ((c.plains-x.ensures.plains.next c.in-Some.h c.in-Some.is).1) }

pub returns-then-n-eq0-3 : goal.returns-then-n-eq0-3
returns-then-n-eq0-3 c = c.plains-x.ensures.plains.fresh c.if-n-eq0-3.true

pub returns-in_default-behind : goal.returns-in_default-behind
returns-in_default-behind c = rw c.headed-u.ensures (c.plains-x.ensures.plains.fills, (c.requires.known_older, omega (arith, c.if-n-eq0-3.false)))

pub overflow_mul-n : goal.overflow_mul-n
overflow_mul-n c = omega (arith, c.plains-x.ensures.plains.fills.few, c.requires.room_bound)

pub overflow_add-at : goal.overflow_add-at
overflow_add-at c = omega (arith, c.plains-x.ensures.plains.fills.few, c.requires.room_bound)

pub tell_rec-requires : goal.tell_rec-requires
tell_rec-requires c = let q : Heads c.args.s.now c.headed-u.result (Some (c.in-Some-behind.r, c.in-Some-behind.v, c.in-Some-behind.seen)) = subst (λ (z : Option (Rec × Walk × ℕ)). Heads c.args.s.now c.headed-u.result z) c.in-Some-behind.is c.behind.ensures in
    record {
      k_in_bounds = omega (arith, c.plains-x.ensures.count_lt_fit c.in-Some.h c.in-Some.is, c.plains-x.ensures.plains.fills.long, c.requires.fit_le_room.1);
      ver_at_in_bounds = q.1.1;
    }

pub overflow_add-result : goal.overflow_add-result
overflow_add-result c = omega (arith, c.plains-x.ensures.plains.fills.few, c.requires.room_bound)

pub returns : goal.returns
returns c = (let q : Heads c.args.s.now c.headed-u.result (Some (c.in-Some-behind.r, c.in-Some-behind.v, c.in-Some-behind.seen)) = subst (λ (z : Option (Rec × Walk × ℕ)). Heads c.args.s.now c.headed-u.result z) c.in-Some-behind.is c.behind.ensures in
    (plains_head c.args.s.now c.args.room c.args.at c.args.w c.args.out.now c.plains-x.result _ c.plains-x.ensures.plains c.in-Some.h c.in-Some.is c.headed-u.ensures c.in-Some-behind.r c.in-Some-behind.v c.in-Some-behind.seen q c.tell_rec.ensures, (q.1.0, omega arith)))
