-- `capi::ct_new_leaf` meets its contract. Assumes nothing.
use Rattle.build_image.specs.Call as call
use Rattle.c_answers.specs.Answers.{built_words}
use Rattle.c_words.proofs.Laws.{told}
use Rattle.capi.proofs.ct_new_leaf.Goals as goal

pub returns : goal.returns
returns c = let t = told call.built_number built_words c.args.out.now c.new_leaf-x.ensures.value (c.tell_built.ensures.value, c.tell_built.ensures.out_after) in
    record {
      value = t.0;
      arena_after = c.new_leaf-x.ensures.a_after;
      out_after = t.1;
    }
