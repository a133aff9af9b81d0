-- `capi::ct_calc_prefix` meets its contract. Assumes nothing.
use Prim.Native.Nat.{ℕ}
use mathlib.Core.Path.{refl, ap, ◌∙◌}
use mathlib.Core.List.{[], ◌∷◌}
use Rattle.spans.specs.Span.{put}
use Rattle.c_words.specs.Words.{written}
use Rattle.capi.proofs.ct_calc_prefix.Goals as goal

pub returns : goal.returns
unfolding written
returns c = record {
  value = refl;
  out_after = c.store.ensures ∙ ap (λ (n : ℕ). put c.args.out.now 0 (n ∷ [])) c.calc_prefix-n.ensures;
}
