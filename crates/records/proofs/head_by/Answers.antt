-- `records::head_by` meets its contract. Assumes nothing.
use Rattle.values.specs.declared.Val.{Val}
use Rattle.std.proofs.Common.{Option, Some, None}
use native.Mathlib.Omega.{arith}
use Prim.Native.Nat.{◌+◌, ℕ}
use mathlib.Core.Path.{sym, ap, ◌∙◌}
use mathlib.Core.Bool.{true}
use lib.ListN.{take}
use lib.Seq.{length-take-le}
use Rattle.records.specs.Records.{remote_of, rec_val}
use Rattle.records.proofs.Places.{key-place, remote-place}
use Rattle.records.proofs.Quick.{by_none, by_long, by_val}
use Rattle.records.proofs.head_by.Goals as goal

pub slice_bounds-key_at-end : goal.slice_bounds-key_at-end
slice_bounds-key_at-end c = sym (length-take-le c.args.e c.args.s.now c.requires.0)

pub returns-in_err-k : goal.returns-in_err-k
returns-in_err-k c = λ b k x y. c.from_residual.ensures ∙ sym (by_none c.args.s.now c.args.e c.args.prefix c.args.p b k x y (sym c.key_at.ensures ∙ c.in_err-k.was))

pub overflow_add-prefix : goal.overflow_add-prefix
overflow_add-prefix c = omega (arith, (key-place (take c.args.e c.args.s.now) c.args.p 0 c.in_ok-k.k.ver_at c.in_ok-k.k.rest_at c.in_ok-k.k.rest_len (sym c.key_at.ensures ∙ c.in_ok-k.was)).rest, length-take-le c.args.e c.args.s.now c.requires.0, c.requires.0, c.requires.1, c.well_formed)

pub returns-then-prefix-k-gt-MAX_KEY : goal.returns-then-prefix-k-gt-MAX_KEY
returns-then-prefix-k-gt-MAX_KEY c = λ b k x y. sym (by_long c.args.s.now c.args.e c.args.prefix c.args.p b k x y c.in_ok-k.k.ver_at c.in_ok-k.k.rest_at c.in_ok-k.k.rest_len (sym c.key_at.ensures ∙ c.in_ok-k.was) c.if-prefix-k-gt-MAX_KEY.true)

pub slice_bounds-decode_from-end : goal.slice_bounds-decode_from-end
slice_bounds-decode_from-end c = sym (length-take-le c.args.e c.args.s.now c.requires.0)

pub overflow_add-k : goal.overflow_add-k
overflow_add-k c = omega (arith, (key-place (take c.args.e c.args.s.now) c.args.p 0 c.in_ok-k.k.ver_at c.in_ok-k.k.rest_at c.in_ok-k.k.rest_len (sym c.key_at.ensures ∙ c.in_ok-k.was)).rest, length-take-le c.args.e c.args.s.now c.requires.0, c.requires.0, c.requires.1, c.well_formed)

pub overflow_cast-size : goal.overflow_cast-size
overflow_cast-size c = omega (arith, (remote-place (take c.args.e c.args.s.now) (c.in_ok-k.k.rest_at + c.in_ok-k.k.rest_len) true c.in-Remote.hist c.in-Remote.addr c.in-Remote.size c.in-Remote.next (sym c.decode_from.ensures ∙ c.in_ok-v.was ∙ ap Some c.in-Remote.is)).small)

pub returns-in_err-q-in-Remote : goal.returns-in_err-q-in-Remote
returns-in_err-q-in-Remote c = λ b k x y. c.from_residual-in_err-q-in-Remote.ensures ∙ sym (by_val c.args.s.now c.args.e c.args.prefix c.args.p b k x y c.in_ok-k.k.ver_at c.in_ok-k.k.rest_at c.in_ok-k.k.rest_len (sym c.key_at.ensures ∙ c.in_ok-k.was) c.if-prefix-k-gt-MAX_KEY.false (Some (Val.Remote c.in-Remote.hist c.in-Remote.addr c.in-Remote.size c.in-Remote.next)) (sym c.decode_from.ensures ∙ c.in_ok-v.was ∙ ap Some c.in-Remote.is) ∙ ap (λ (z : Option ℕ). rec_val c.args.p c.in_ok-k.k.ver_at c.in_ok-k.k.rest_at c.in_ok-k.k.rest_len (remote_of c.in-Remote.hist c.in-Remote.addr c.in-Remote.size c.in-Remote.next z)) (sym c.remote_at.ensures ∙ c.in_err-q-in-Remote.was))

pub returns-in-Inline : goal.returns-in-Inline
returns-in-Inline c = λ b k x y. sym (by_val c.args.s.now c.args.e c.args.prefix c.args.p b k x y c.in_ok-k.k.ver_at c.in_ok-k.k.rest_at c.in_ok-k.k.rest_len (sym c.key_at.ensures ∙ c.in_ok-k.was) c.if-prefix-k-gt-MAX_KEY.false (Some (Val.Inline c.in-Inline.hist c.in-Inline.at c.in-Inline.size c.in-Inline.next)) (sym c.decode_from.ensures ∙ c.in_ok-v.was ∙ ap Some c.in-Inline.is))

pub returns-in_ok-q-in-Remote : goal.returns-in_ok-q-in-Remote
returns-in_ok-q-in-Remote c = λ b k x y. sym (by_val c.args.s.now c.args.e c.args.prefix c.args.p b k x y c.in_ok-k.k.ver_at c.in_ok-k.k.rest_at c.in_ok-k.k.rest_len (sym c.key_at.ensures ∙ c.in_ok-k.was) c.if-prefix-k-gt-MAX_KEY.false (Some (Val.Remote c.in-Remote.hist c.in-Remote.addr c.in-Remote.size c.in-Remote.next)) (sym c.decode_from.ensures ∙ c.in_ok-v.was ∙ ap Some c.in-Remote.is) ∙ ap (λ (z : Option ℕ). rec_val c.args.p c.in_ok-k.k.ver_at c.in_ok-k.k.rest_at c.in_ok-k.k.rest_len (remote_of c.in-Remote.hist c.in-Remote.addr c.in-Remote.size c.in-Remote.next z)) (sym c.remote_at.ensures ∙ c.in_ok-q-in-Remote.was))

pub returns-in_err-v : goal.returns-in_err-v
returns-in_err-v c = λ b k x y. c.from_residual-in_err-v.ensures ∙ sym (by_val c.args.s.now c.args.e c.args.prefix c.args.p b k x y c.in_ok-k.k.ver_at c.in_ok-k.k.rest_at c.in_ok-k.k.rest_len (sym c.key_at.ensures ∙ c.in_ok-k.was) c.if-prefix-k-gt-MAX_KEY.false None (sym c.decode_from.ensures ∙ c.in_err-v.was))
