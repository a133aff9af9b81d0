-- `delta::from_key_index` meets its contract. Assumes nothing.
use Rattle.std.proofs.Common.{Ok}
use native.Mathlib.Omega.{arith}
use Prim.Native.Nat.{ℕ, ◌+◌, ◌≤◌}
use mathlib.Core.Path.{◌≡◌, sym, ap, ◌∙◌}
use lib.ListN.{length}
use Rattle.spans.specs.Span.{put}
use Rattle.delta.specs.Deltas.{index_frame, index_len}
use Rattle.build_image.specs.Call.{call_of}
use Rattle.build_image.proofs.Asked.{next_true}
use Rattle.delta.proofs.Lengths.{index_most}
use Rattle.delta.proofs.Verdict.{lengths_true, address-some, address_zero, index_next, index_pair, index_full, index_fits, index_frame-room}
use borrow.Author.Tests.{not-true, not-false}
use mathlib.Core.Path.{ap₂}
use Rattle.frames.specs.Layout.{addr}
use Rattle.delta.proofs.from_key_index.Goals as goal

pub returns-then-not-next_ok : goal.returns-then-not-next_ok
returns-then-not-next_ok c = let all = index_next (call_of 0 0 c.args.group c.args.txid c.args.lsn c.args.ckpt) c.args.a.now c.args.next c.args.key.now c.args.page (sym c.next_ok.ensures ∙ c.if-not-next_ok.true) in record {
  value = all.0;
  a_after = all.1;
}

pub returns-then-not-lengths_ok : goal.returns-then-not-lengths_ok
returns-then-not-lengths_ok c = let all = index_pair (call_of 0 0 c.args.group c.args.txid c.args.lsn c.args.ckpt) c.args.a.now c.args.next c.args.key.now c.args.page (sym c.next_ok.ensures ∙ c.if-not-next_ok.false) (sym c.lengths_ok.ensures ∙ c.if-not-lengths_ok.true) in record {
  value = all.0;
  a_after = all.1;
}

pub index_len-len-requires : goal.index_len-len-requires
index_len-len-requires c = (lengths_true (length c.args.key.now) 0 (sym c.lengths_ok.ensures ∙ c.if-not-lengths_ok.false)).0

pub placed-at-requires : goal.placed-at-requires
placed-at-requires c = let l = lengths_true (length c.args.key.now) 0 (sym c.lengths_ok.ensures ∙ c.if-not-lengths_ok.false) in
    ((next_true (length c.args.a.now) c.args.next (sym c.next_ok.ensures ∙ c.if-not-next_ok.false)).0, omega (arith, c.index_len-len.ensures, index_most (length c.args.key.now) l.0))

pub returns-then-at-eq0 : goal.returns-then-at-eq0
returns-then-at-eq0 c = let all = let h = address_zero c.args.next (length c.args.a.now) 0 c.index_len-len.result c.placed-at.result (next_true (length c.args.a.now) c.args.next (sym c.next_ok.ensures ∙ c.if-not-next_ok.false)).0 c.placed-at.ensures c.if-at-eq0.true in
    index_full (call_of 0 0 c.args.group c.args.txid c.args.lsn c.args.ckpt) c.args.a.now c.args.next c.args.key.now c.args.page (sym c.next_ok.ensures ∙ c.if-not-next_ok.false) (sym c.lengths_ok.ensures ∙ c.if-not-lengths_ok.false) (omega (arith, h, c.index_len-len.ensures)) in record {
      value = all.0;
      a_after = all.1;
    }

pub put_index-requires : goal.put_index-requires
put_index-requires c = let s = address-some c.args.next (length c.args.a.now) 0 c.index_len-len.result c.placed-at.result c.placed-at.ensures c.if-at-eq0.false in
    let l = lengths_true (length c.args.key.now) 0 (sym c.lengths_ok.ensures ∙ c.if-not-lengths_ok.false) in
    let q : c.args.next + 0 + index_len (length c.args.key.now) ≤ length c.args.a.now = omega (arith, s.1, c.index_len-len.ensures) in record { key_len_bound = l.0; page_in_bounds = rw c.call_of-m.ensures (index_frame-room (call_of 0 0 c.args.group c.args.txid c.args.lsn c.args.ckpt) c.args.a.now c.args.next c.args.key.now c.args.page c.placed-at.result s.0 q) }

pub overflow_add-result : goal.overflow_add-result
overflow_add-result c = let s = address-some c.args.next (length c.args.a.now) 0 c.index_len-len.result c.placed-at.result c.placed-at.ensures c.if-at-eq0.false in
    omega (arith, s.0, s.1, c.well_formed)

pub returns : goal.returns
returns c = let s = address-some c.args.next (length c.args.a.now) 0 c.index_len-len.result c.placed-at.result c.placed-at.ensures c.if-at-eq0.false in
    let q : c.args.next + index_len (length c.args.key.now) ≤ length c.args.a.now = omega (arith, s.1, c.index_len-len.ensures) in
    let at : c.placed-at.result ≡ c.args.next = omega (arith, s.0) in
    let f = index_fits (call_of 0 0 c.args.group c.args.txid c.args.lsn c.args.ckpt) c.args.a.now c.args.next c.args.key.now c.args.page (sym c.next_ok.ensures ∙ c.if-not-next_ok.false) (sym c.lengths_ok.ensures ∙ c.if-not-lengths_ok.false) q in
    record {
      value = ap₂ (λ (i n : ℕ). Ok (addr i, i + n)) at c.index_len-len.ensures ∙ f.0;
      a_after = (rw c.call_of-m.ensures at c.put_index.ensures) ∙ ap (λ (i : ℕ). put c.args.a.now i (index_frame (call_of 0 0 c.args.group c.args.txid c.args.lsn c.args.ckpt) c.args.key.now c.args.page)) at ∙ f.1;
    }
