-- Looking ahead: finishing from here gives the page that comes next; and what that page tells of the cuts.
-- Assumes nothing.
use mathlib.Core.Path.{◌≡◌, refl, sym, ap, ◌∙◌}
use mathlib.Core.List.{List, [], ◌∷◌, ◌++◌}
use mathlib.Core.Bool.{Bool, true, false, cond}
use Prim.Native.Nat.{ℕ, zero, suc, ◌+◌, ◌-◌, ◌*◌, ◌≤◌, ◌<◌}
use native.Mathlib.Omega.{arith}
use lib.ListN.{length, take, drop}
use lib.Seq.{length-take-le}
use Rattle.frames.specs.Layout.{base_len}
use Rattle.frames.specs.Limits.{max_budget, max_limit}
use Rattle.values.specs.Vals.{size_of}
use Rattle.build_paging.specs.Cuts.{fits, taken, cuts, first_cut, some, total}
use Rattle.build_paging.proofs.Cutting.{taken_more, taken_stop, taken_nil, taken-long, told, more, page_most, fits_says, fits_not}
use Rattle.build_sources.specs.declared.Cursor.{Cursor}
use Rattle.build_sources.specs.declared.EntryAt.{EntryAt}
use Rattle.build_sources.specs.Source.{Entry, entry_of, entries, only, Chosen, Skipped}
use Rattle.build_image.specs.Sizes.{remote_len, val_len, cost, costs_of, remotes_len}
use Rattle.build_image.specs.Image.{hist_size, link_to}
use Rattle.build_image.proofs.Lengths.{size-some, remote_most, cost-some, costs_many, costs_take, costs_drop, costs_length}
use Rattle.build_history.specs.declared.PageAhead.{PageAhead}
use Rattle.build_history.specs.Runs.{any, run_at, run_of}
use mathlib.Core.Logic.{◌⊎◌, ⊎_elim}

abbrev pub run : ℕ → ℕ → ℕ → Bool → PageAhead
run n t f b = record { count = n; size = t; remote = f; more = b }

run_eq : (n n' t t' f f' : ℕ) (b b' : Bool) → n ≡ n' → t ≡ t' → f ≡ f' → b ≡ b' → run n t f b ≡ run n' t' f' b'
run_eq n n' t t' f f' b b' p q r s = rw (p, q, r, s) refl

-- the page under way with k more: n stand in it, it is t long, its remote frames f, and these are to come
abbrev pub run_with : ℕ → ℕ → ℕ → ℕ → ℕ → List Entry → PageAhead
run_with limit k n t f es = run (n + k) (t + total (costs_of limit (take k es))) (f + remotes_len limit (take k es)) (any (drop k es))

abbrev pub run_from : ℕ → ℕ → ℕ → ℕ → ℕ → List Entry → PageAhead
run_from limit budget n t f es = run_with limit (taken budget n t (costs_of limit es)) n t f es

module _ (limit budget : ℕ) where
  pub from_first : (os : List Entry) → run_from limit budget 0 base_len 0 os ≡ run_of limit budget os
  unfolding run_of hist_size
  from_first os =
      let k = first_cut budget (costs_of limit os) in
      run_eq (0 + k) k _ _ (0 + remotes_len limit (take k os)) (remotes_len limit (take k os)) _ _ (omega arith) refl (omega arith) refl

  module _ (n t f : ℕ) where
    none_more : (k : ℕ) (es : List Entry) → k ≡ 0 → run n t f (any es) ≡ run_with limit k n t f es
    unfolding costs_of total remotes_len
    none_more k es e = rw e (run_eq n (n + 0) t (t + 0) f (f + 0) (any es) (any es) (omega arith) (omega arith) (omega arith) refl)

    taken_none : (es : List Entry) → es ≡ [] → taken budget n t (costs_of limit es) ≡ 0
    unfolding costs_of taken
    taken_none es e = rw e refl

    pub from_nil : (es : List Entry) → es ≡ [] → run n t f false ≡ run_from limit budget n t f es
    from_nil es e = ap (run n t f) (sym (ap any e)) ∙ none_more (taken budget n t (costs_of limit es)) es (taken_none es e)

    stops : (e : Entry) (es : List Entry) → fits budget n t (cost limit e) ≡ false → taken budget n t (costs_of limit (e ∷ es)) ≡ 0
    unfolding costs_of
    stops e es h = taken_stop budget n t (cost limit e) (costs_of limit es) h

    pub from_stop : (e : Entry) (es : List Entry) → fits budget n t (cost limit e) ≡ false → run n t f true ≡ run_from limit budget n t f (e ∷ es)
    from_stop e es h = none_more (taken budget n t (costs_of limit (e ∷ es))) (e ∷ es) (stops e es h)

    one_more : (k j : ℕ) (e : Entry) (es : List Entry) → k ≡ suc j
        → run_with limit k n t f (e ∷ es) ≡ run_with limit j (n + 1) (t + cost limit e) (f + remote_len limit (length e.val) e.kept) es
    unfolding costs_of total remotes_len
    one_more k j e es q =
        rw q
        (run_eq (n + suc j) (n + 1 + j) (t + (cost limit e + total (costs_of limit (take j es)))) (t + cost limit e + total (costs_of limit (take j es)))
        (f + (remote_len limit (length e.val) e.kept + remotes_len limit (take j es))) (f + remote_len limit (length e.val) e.kept + remotes_len limit (take j es)) (any (drop j es)) (any (drop j es))
        (omega arith) (omega arith) (omega arith) refl)

    goes_on : (e : Entry) (es : List Entry) → fits budget n t (cost limit e) ≡ true → taken budget n t (costs_of limit (e ∷ es)) ≡ suc (taken budget (n + 1) (t + cost limit e) (costs_of limit es))
    unfolding costs_of
    goes_on e es h = taken_more budget n t (cost limit e) (costs_of limit es) h

    pub from_go : (e : Entry) (es : List Entry) → fits budget n t (cost limit e) ≡ true
        → run_from limit budget n t f (e ∷ es) ≡ run_from limit budget (n + 1) (t + cost limit e) (f + remote_len limit (length e.val) e.kept) es
    from_go e es h = one_more (taken budget n t (costs_of limit (e ∷ es))) (taken budget (n + 1) (t + cost limit e) (costs_of limit es)) e es (goes_on e es h)

-- ---- the loop

drop-next : (n : ℕ) (os : List Entry) (e : Entry) (es : List Entry) → drop n os ≡ e ∷ es → es ≡ drop (n + 1) os
drop-next zero [] e es q = absurd (omega (arith, ap length q))
drop-next zero (x ∷ os) e es q = cc
drop-next (suc n) [] e es q = absurd (omega (arith, ap length q))
drop-next (suc n) (x ∷ os) e es q = let k : suc (n + 1) ≡ suc n + 1 = omega arith in drop-next n os e es q ∙ ap (λ (j : ℕ). drop j (x ∷ os)) k

pub record Looking (l w : List ℕ) (limit budget : ℕ) (c₀ c : Cursor) (n t f : ℕ) : Type 0 where
  pub goes : run_from limit budget n t f (only true (entries l w c)) ≡ run_of limit budget (only true (entries l w c₀))
  pub rest : only true (entries l w c) ≡ drop n (only true (entries l w c₀))
  pub small : t ≤ max_budget
  pub many : 21 * n + base_len ≤ t
  pub first : n ≡ 0 → t ≡ base_len
  pub away : f ≤ 65600 * n
  pub limits : limit ≤ max_limit
  pub budgets : budget ≤ max_budget

pub look_begin : (l w : List ℕ) (limit budget : ℕ) (c : Cursor) → limit ≤ max_limit → budget ≤ max_budget → Looking l w limit budget c c 0 base_len 0
look_begin l w limit budget c h k =
    record { goes = from_first limit budget (only true (entries l w c)); rest = refl; small = omega arith; many = omega arith; first = λ e. refl; away = omega arith; limits = h; budgets = k }

module _ (l w : List ℕ) (limit budget : ℕ) (c₀ c : Cursor) (n t f : ℕ) (h : Looking l w limit budget c₀ c n t f) where
  skipped : Skipped l w true c₀ n c
  skipped = record { list = h.rest }

  pub look_end : only true (entries l w c) ≡ [] → (run n t f false ≡ run_of limit budget (only true (entries l w c₀))) × Skipped l w true c₀ n c
  look_end e = (from_nil limit budget n t f (only true (entries l w c)) e ∙ h.goes, skipped)

  module _ (i : EntryAt) (d : Cursor) (g : Chosen l w true c i d) (x : ℕ) (ex : x ≡ size_of false limit i.vlen) where
    pub look_fits : (5 ≤ x) × (x ≤ 65549)
    look_fits = let s = size-some limit i.vlen in let b = h.limits in (omega arith, omega arith)

    cost-is : 12 + x + 4 ≡ cost limit (entry_of l w i)
    unfolding cost
    cost-is = rw (ex, g.vlen) refl

    pub look_full : fits budget n t (12 + x + 4) ≡ false → (run n t f true ≡ run_of limit budget (only true (entries l w c₀))) × Skipped l w true c₀ n c
    look_full e = (
      from_stop limit budget n t f (entry_of l w i) (only true (entries l w d)) (ap (fits budget n t) (sym cost-is) ∙ e)
          ∙ ap (run_from limit budget n t f) (sym g.list)
          ∙ h.goes,
      skipped,
    )

    module _ (y : ℕ) (ey : y ≡ remote_len limit i.vlen i.kept.0) where
      pub look_remote : y ≤ 65600
      look_remote = omega (arith, remote_most limit i.vlen i.kept.0, g.placed.vsmall)

      remote-is : remote_len limit (length (entry_of l w i).val) (entry_of l w i).kept ≡ y
      unfolding entry_of
      remote-is = ap (λ (k : ℕ). remote_len limit k i.kept.0) g.vlen ∙ sym ey

      pub look_turn : fits budget n t (12 + x + 4) ≡ true → Looking l w limit budget c₀ d (n + 1) (t + (12 + x + 4)) (f + y)
      look_turn e =
          record {
            goes =
                sym (ap (run_from limit budget n t f) g.list ∙ from_go limit budget n t f (entry_of l w i) (only true (entries l w d)) (ap (fits budget n t) (sym cost-is) ∙ e)
                ∙ rw (cost-is, remote-is) refl)
                ∙ h.goes;
            rest = drop-next n (only true (entries l w c₀)) (entry_of l w i) (only true (entries l w d)) (sym h.rest ∙ g.list);
            small = ⊎_elim (λ q. let z : t ≡ base_len = h.first q in let b = look_fits in omega arith) (λ q. let b = h.budgets in omega arith) (fits_says budget n t (12 + x + 4) e);
            many = let b = look_fits in omega (arith, h.many);
            first = λ q. absurd (omega arith);
            away = omega (arith, h.away, look_remote);
            limits = h.limits;
            budgets = h.budgets;
          }

pub fewer : (l w : List ℕ) (b : Bool) (c : Cursor) (i : EntryAt) (d : Cursor) → Chosen l w b c i d → length (only b (entries l w d)) < length (only b (entries l w c))
fewer l w b c i d g = omega (arith, ap length g.list)

-- ---- what the page tells

pub record Tells (limit budget : ℕ) (os : List Entry) (r : PageAhead) : Type 0 where
  pub count : r.count ≡ length (take r.count os)
  pub size : r.size ≡ hist_size limit (take r.count os)
  pub remote : r.remote ≡ remotes_len limit (take r.count os)
  pub small : r.size ≤ max_budget
  pub many : 21 * r.count + base_len ≤ r.size
  pub cut : 0 < r.count → cuts budget (costs_of limit os) ≡ r.count ∷ cuts budget (costs_of limit (drop r.count os))
  pub link : (x : ℕ) → cond r.more x 0 ≡ link_to x (cuts budget (costs_of limit (drop r.count os)))
  pub none : r.count ≡ 0 → os ≡ []

link-some : (x : ℕ) (ns : List ℕ) → cond (some ns) x 0 ≡ link_to x ns
link-some x [] = refl
link-some x (n ∷ ns) = refl

any_some : (limit : ℕ) (es : List Entry) → any es ≡ some (costs_of limit es)
unfolding costs_of
any_some limit [] = refl
any_some limit (e ∷ es) = refl

none_left : (limit : ℕ) (es : List Entry) → costs_of limit es ≡ [] → es ≡ []
none_left limit [] e = refl
none_left limit (x ∷ es) e = absurd (omega (arith, ap length e, costs_length limit (x ∷ es)))

first_small : (limit : ℕ) (os : List Entry) → limit ≤ max_limit → base_len + total (take 1 (costs_of limit os)) ≤ max_budget
unfolding costs_of total
first_small limit [] h = omega arith
first_small limit (e ∷ os) h = omega (arith, (cost-some limit e).1)

tells_at : (limit budget : ℕ) (os : List Entry) → limit ≤ max_limit → budget ≤ max_budget → Tells limit budget os (run_of limit budget os)
unfolding run_of hist_size
tells_at limit budget os lh bh =
    let ss = costs_of limit os in
    let k = first_cut budget ss in
    let t = told budget ss k refl in
    let inside : first_cut budget (costs_of limit os) ≤ length os = omega (arith, t.long, costs_length limit os) in
    let long : length (take k os) ≡ k = length-take-le k os inside in
    let taken_costs : total (costs_of limit (take k os)) ≡ total (take k ss) = ap total (costs_take limit k os) in
    record {
      count = sym long;
      size = refl;
      remote = refl;
      small = omega (arith, taken_costs, page_most budget max_budget ss bh (omega arith) (first_small limit os lh));
      many = omega (arith, costs_many limit (take k os), long);
      cut = λ p. t.cut p ∙ ap (λ (l : List ℕ). k ∷ cuts budget l) (sym (costs_drop limit k os));
      link = λ x. ap (λ (b : Bool). cond b x 0) (any_some limit (drop k os) ∙ sym (more budget (costs_of limit (drop k os)))) ∙ link-some x (cuts budget (costs_of limit (drop k os)));
      none = λ z. none_left limit os (t.some z);
    }

pub tells_of : (limit budget : ℕ) (os : List Entry) (r : PageAhead) → limit ≤ max_limit → budget ≤ max_budget → r ≡ run_of limit budget os → Tells limit budget os r
tells_of limit budget os r lh bh e = rw e (tells_at limit budget os lh bh)
