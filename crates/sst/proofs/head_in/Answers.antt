-- `sst::head_in` meets its contract. Assumes nothing.
use Rattle.sst.specs.declared.Found.{Found}
use Rattle.std.proofs.Common.{Ok}
use native.Mathlib.Omega.{arith}
use mathlib.Core.Path.{◌≡◌, sym, ap, ◌∙◌}
use Rattle.records.proofs.Quick.{quick_is}
use Rattle.records.proofs.Inside.{skip_twelve, val_no, rec_no_key, rec-val}
use Rattle.pages.specs.Boundaries.{place}
use Rattle.sst.specs.Search.{found_rec, head_in}
use Rattle.sst.proofs.Opens.{key-at-inside}
use Rattle.sst.proofs.head_in.Goals as goal

pub returns-in_default : goal.returns-in_default
unfolding head_in
returns-in_default c = sym (ap (found_rec c.args.s.now c.args.i c.args.reads) (rec_no_key c.args.s.now c.args.b c.args.i (sym c.key_at.ensures ∙ c.in_default.is)))

pub overflow_add-k : goal.overflow_add-k
overflow_add-k c = let k = key-at-inside c.args.s.now c.args.b c.args.i c.in-Some.k.ver_at c.in-Some.k.rest_at c.in-Some.k.rest_len c.requires.inside (sym c.key_at.ensures ∙ c.in-Some.is) in
    omega (arith, k.rest, c.requires.inside.payload, c.requires.inside.arena, c.well_formed)

pub ver_at-requires : goal.ver_at-requires
ver_at-requires c = let k = key-at-inside c.args.s.now c.args.b c.args.i c.in-Some.k.ver_at c.in-Some.k.rest_at c.in-Some.k.rest_len c.requires.inside (sym c.key_at.ensures ∙ c.in-Some.is) in
    omega (arith, k.ver, k.rest, skip_twelve c.args.b.kind (λ e. omega (arith, c.requires.kind_value)), c.requires.inside.payload, c.requires.inside.arena)

pub returns : goal.returns
unfolding head_in
returns c = let k : c.args.b.kind ≡ 1 → ⊥ = λ e. omega (arith, c.requires.kind_value) in
    ap (λ x. Ok (Found.Is c.args.i x c.in-Some-quick_value.val.hist (place c.in-Some-quick_value.val.val_at c.in-Some-quick_value.val.val_len) c.args.reads)) c.ver_at.ensures
    ∙ sym (ap (found_rec c.args.s.now c.args.i c.args.reads) (rec-val c.args.s.now c.args.b c.args.i c.in-Some.k.ver_at c.in-Some.k.rest_at c.in-Some.k.rest_len (sym c.key_at.ensures ∙ c.in-Some.is) _ k (quick_is _ c.quick_value.ensures c.in-Some-quick_value.is (val_no _ _ _ _ _))))
