-- `delta::from_key_val` meets its contract. Assumes nothing.
use Rattle.std.proofs.Common.{Ok}
use native.Mathlib.Omega.{arith}
use Prim.Native.Nat.{ℕ, ◌+◌, ◌≤◌}
use mathlib.Core.Path.{◌≡◌, refl, sym, ap, ◌∙◌}
use lib.ListN.{length}
use Rattle.build_image.specs.Sizes.{remote_len}
use Rattle.build_image.proofs.Lengths.{remote_most}
use Rattle.delta.specs.Deltas.{leaf_len}
use Rattle.build_image.specs.Call.{call_of}
use Rattle.build_image.proofs.Asked.{limit_true, next_true}
use Rattle.delta.proofs.Lengths.{leaf_most}
use Rattle.delta.proofs.Verdict.{lengths_true, address-some, address_zero, leaf_limit, leaf_next, leaf_pair, leaf_full, leaf_fits, leaf_remote-room, leaf_frame-room, leaf_stored}
use borrow.Author.Tests.{not-true, not-false}
use mathlib.Core.Path.{ap₂}
use Rattle.frames.specs.Layout.{addr}
use Rattle.delta.proofs.from_key_val.Goals as goal

pub returns-then-not-limit_ok : goal.returns-then-not-limit_ok
returns-then-not-limit_ok c = let all = leaf_limit (call_of c.args.limit 0 c.args.group c.args.ver.txid c.args.lsn c.args.ckpt) c.args.a.now c.args.next c.args.ver c.args.key.now c.args.value.now (sym c.limit_ok.ensures ∙ c.if-not-limit_ok.true) in record {
  value = all.0;
  a_after = all.1;
}

pub returns-then-not-next_ok : goal.returns-then-not-next_ok
returns-then-not-next_ok c = let all = leaf_next (call_of c.args.limit 0 c.args.group c.args.ver.txid c.args.lsn c.args.ckpt) c.args.a.now c.args.next c.args.ver c.args.key.now c.args.value.now (sym c.limit_ok.ensures ∙ c.if-not-limit_ok.false) (sym c.next_ok.ensures ∙ c.if-not-next_ok.true) in record {
  value = all.0;
  a_after = all.1;
}

pub returns-then-not-lengths_ok : goal.returns-then-not-lengths_ok
returns-then-not-lengths_ok c = let all = leaf_pair (call_of c.args.limit 0 c.args.group c.args.ver.txid c.args.lsn c.args.ckpt) c.args.a.now c.args.next c.args.ver c.args.key.now c.args.value.now (sym c.limit_ok.ensures ∙ c.if-not-limit_ok.false) (sym c.next_ok.ensures ∙ c.if-not-next_ok.false) (sym c.lengths_ok.ensures ∙ c.if-not-lengths_ok.true) in record {
  value = all.0;
  a_after = all.1;
}

pub remote_len-remote-requires : goal.remote_len-remote-requires
remote_len-remote-requires c = (lengths_true (length c.args.key.now) (length c.args.value.now) (sym c.lengths_ok.ensures ∙ c.if-not-lengths_ok.false)).1

pub leaf_len-len-requires : goal.leaf_len-len-requires
leaf_len-len-requires c = let l = lengths_true (length c.args.key.now) (length c.args.value.now) (sym c.lengths_ok.ensures ∙ c.if-not-lengths_ok.false) in
    (l.0, l.1, (limit_true c.args.limit (sym c.limit_ok.ensures ∙ c.if-not-limit_ok.false)).1)

pub placed-at-requires : goal.placed-at-requires
placed-at-requires c = let l = lengths_true (length c.args.key.now) (length c.args.value.now) (sym c.lengths_ok.ensures ∙ c.if-not-lengths_ok.false) in (
  (next_true (length c.args.a.now) c.args.next (sym c.next_ok.ensures ∙ c.if-not-next_ok.false)).0,
  omega (arith, c.remote_len-remote.ensures, remote_most c.args.limit (length c.args.value.now) 0, c.leaf_len-len.ensures, l.1, leaf_most c.args.limit (length c.args.key.now) (length c.args.value.now) l.0 (limit_true c.args.limit (sym c.limit_ok.ensures ∙ c.if-not-limit_ok.false)).1),
)

pub returns-then-at-eq0 : goal.returns-then-at-eq0
returns-then-at-eq0 c = let all = let h = address_zero c.args.next (length c.args.a.now) c.remote_len-remote.result c.leaf_len-len.result c.placed-at.result (next_true (length c.args.a.now) c.args.next (sym c.next_ok.ensures ∙ c.if-not-next_ok.false)).0 c.placed-at.ensures c.if-at-eq0.true in
    leaf_full (call_of c.args.limit 0 c.args.group c.args.ver.txid c.args.lsn c.args.ckpt) c.args.a.now c.args.next c.args.ver c.args.key.now c.args.value.now (sym c.limit_ok.ensures ∙ c.if-not-limit_ok.false) (sym c.next_ok.ensures ∙ c.if-not-next_ok.false) (sym c.lengths_ok.ensures ∙ c.if-not-lengths_ok.false) (omega (arith, h, c.remote_len-remote.ensures, c.leaf_len-len.ensures)) in record {
      value = all.0;
      a_after = all.1;
    }

pub put_remote-requires : goal.put_remote-requires
put_remote-requires c = let s = address-some c.args.next (length c.args.a.now) c.remote_len-remote.result c.leaf_len-len.result c.placed-at.result c.placed-at.ensures c.if-at-eq0.false in
    let l = lengths_true (length c.args.key.now) (length c.args.value.now) (sym c.lengths_ok.ensures ∙ c.if-not-lengths_ok.false) in
    let q : c.args.next + remote_len c.args.limit (length c.args.value.now) 0 + leaf_len c.args.limit (length c.args.key.now) (length c.args.value.now) ≤ length c.args.a.now = omega (arith, s.1, c.remote_len-remote.ensures, c.leaf_len-len.ensures) in record { v_len_bound = l.1; v_in_bounds = rw c.call_of-m.ensures (leaf_remote-room (call_of c.args.limit 0 c.args.group c.args.ver.txid c.args.lsn c.args.ckpt) c.args.a.now c.args.next c.args.ver c.args.key.now c.args.value.now (c.args.next + remote_len c.args.limit (length c.args.value.now) 0) refl q) }

pub put_leaf-requires : goal.put_leaf-requires
put_leaf-requires c = let s = address-some c.args.next (length c.args.a.now) c.remote_len-remote.result c.leaf_len-len.result c.placed-at.result c.placed-at.ensures c.if-at-eq0.false in
    let l = lengths_true (length c.args.key.now) (length c.args.value.now) (sym c.lengths_ok.ensures ∙ c.if-not-lengths_ok.false) in
    let q : c.args.next + remote_len c.args.limit (length c.args.value.now) 0 + leaf_len c.args.limit (length c.args.key.now) (length c.args.value.now) ≤ length c.args.a.now = omega (arith, s.1, c.remote_len-remote.ensures, c.leaf_len-len.ensures) in record { key_len_bound = rw c.call_of-m.ensures (l.0, l.1, (limit_true c.args.limit (sym c.limit_ok.ensures ∙ c.if-not-limit_ok.false)).1); v_in_bounds = rw c.call_of-m.ensures (leaf_frame-room (call_of c.args.limit 0 c.args.group c.args.ver.txid c.args.lsn c.args.ckpt) c.args.a.now c.args.next c.args.ver c.args.key.now c.args.value.now c.placed-at.result (s.0 ∙ ap (λ (k : ℕ). c.args.next + k) c.remote_len-remote.ensures) q _ (rw c.call_of-m.ensures at c.put_remote.ensures)) }

pub overflow_add-result : goal.overflow_add-result
overflow_add-result c = let s = address-some c.args.next (length c.args.a.now) c.remote_len-remote.result c.leaf_len-len.result c.placed-at.result c.placed-at.ensures c.if-at-eq0.false in
    omega (arith, s.0, s.1, c.well_formed)

pub returns : goal.returns
returns c = let s = address-some c.args.next (length c.args.a.now) c.remote_len-remote.result c.leaf_len-len.result c.placed-at.result c.placed-at.ensures c.if-at-eq0.false in
    let q : c.args.next + remote_len c.args.limit (length c.args.value.now) 0 + leaf_len c.args.limit (length c.args.key.now) (length c.args.value.now) ≤ length c.args.a.now = omega (arith, s.1, c.remote_len-remote.ensures, c.leaf_len-len.ensures) in
    let at : c.placed-at.result ≡ c.args.next + remote_len c.args.limit (length c.args.value.now) 0 = s.0 ∙ ap (λ (k : ℕ). c.args.next + k) c.remote_len-remote.ensures in
    let f = leaf_fits (call_of c.args.limit 0 c.args.group c.args.ver.txid c.args.lsn c.args.ckpt) c.args.a.now c.args.next c.args.ver c.args.key.now c.args.value.now (sym c.limit_ok.ensures ∙ c.if-not-limit_ok.false) (sym c.next_ok.ensures ∙ c.if-not-next_ok.false) (sym c.lengths_ok.ensures ∙ c.if-not-lengths_ok.false) q in
    record {
      value = ap₂ (λ (i n : ℕ). Ok (addr i, i + n)) at c.leaf_len-len.ensures ∙ f.0;
      a_after = leaf_stored (call_of c.args.limit 0 c.args.group c.args.ver.txid c.args.lsn c.args.ckpt) c.args.a.now c.args.next c.args.ver c.args.key.now c.args.value.now c.placed-at.result at q _ _ (rw c.call_of-m.ensures at c.put_remote.ensures) (rw c.call_of-m.ensures at c.put_leaf.ensures) ∙ f.1;
    }
