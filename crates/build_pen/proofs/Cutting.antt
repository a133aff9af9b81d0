-- More of `Drawing`: a stretch cut in two, one that is empty left out, and three stores at three of them in one step.
-- Assumes nothing.
use mathlib.Core.Path.{◌≡◌, refl, sym, ap, ◌∙◌, subst}
use mathlib.Core.List.{List, [], ◌∷◌, ◌++◌, append_assoc}
use Prim.Native.Nat.{ℕ, ◌+◌, ◌≤◌}
use native.Mathlib.Omega.{arith}
use lib.ListN.{length, length-append}
use Rattle.spans.specs.Span.{put}
use Rattle.spans.proofs.Put.{put-append, put_nil}
use Rattle.build_pen.specs.Stretches.{Stretch, stretch, draws, Rising, Drawing}
use Rattle.build_pen.proofs.Drawn.{rising_le, rising-before, rising-from, drew, drew-room}

pub draw_begin : (a : List ℕ) (low at : ℕ) (x : List ℕ) → low ≤ at → at + length x ≤ length a → Drawing a low (put a at x) a (stretch at x ∷ []) (length a)
draw_begin a low at x h k = record { goes = refl; order = (h, k); room = omega arith; long = refl; same = refl }

pub drawing_low : (a₀ : List ℕ) (low : ℕ) (whole a : List ℕ) (ss : List Stretch) (end : ℕ) → Drawing a₀ low whole a ss end → low ≤ length a
drawing_low a₀ low whole a ss end h = omega (arith, rising_le low ss end h.order, h.room)

-- ---- a stretch cut in two

draws_cut : (a : List ℕ) (p : List Stretch) (at : ℕ) (x y : List ℕ) (q : List Stretch)
    → draws a (p ++ stretch at (x ++ y) ∷ q) ≡ draws a (p ++ stretch at x ∷ stretch (at + length x) y ∷ q)
draws_cut a [] at x y q = ap (λ (s : List ℕ). draws s q) (put-append a at x y)
draws_cut a (r ∷ p) at x y q = draws_cut (put a r.at r.rest) p at x y q

rising_cut : (low : ℕ) (p : List Stretch) (at : ℕ) (x y : List ℕ) (q : List Stretch) (end : ℕ) → Rising low (p ++ stretch at (x ++ y) ∷ q) end
    → Rising low (p ++ stretch at x ∷ stretch (at + length x) y ∷ q) end
rising_cut low [] at x y q end (h, k) =
    (h, (omega arith, subst (λ (n : ℕ). Rising n q end) (omega (arith, length-append x y)) k))
rising_cut low (r ∷ p) at x y q end (h, k) = (h, rising_cut (r.at + length r.rest) p at x y q end k)

pub cut : (a₀ : List ℕ) (low : ℕ) (whole a : List ℕ) (p : List Stretch) (at : ℕ) (z x y : List ℕ) (q : List Stretch) (end at' : ℕ)
    → Drawing a₀ low whole a (p ++ stretch at z ∷ q) end → z ≡ x ++ y → at' ≡ at + length x
    → Drawing a₀ low whole a (p ++ stretch at x ∷ stretch at' y ∷ q) end
cut a₀ low whole a p at z x y q end at' h e g =
    rw g
    (record {
      goes = sym (draws_cut a p at x y q) ∙ ap (λ (w : List ℕ). draws a (p ++ stretch at w ∷ q)) (sym e) ∙ h.goes;
      order = rising_cut low p at x y q end (subst (λ (w : List ℕ). Rising low (p ++ stretch at w ∷ q) end) e h.order);
      room = h.room;
      long = h.long;
      same = h.same;
    })

-- ---- an empty one left out

draws_gone : (a : List ℕ) (p : List Stretch) (at : ℕ) (q : List Stretch) → draws a (p ++ stretch at [] ∷ q) ≡ draws a (p ++ q)
draws_gone a [] at q = ap (λ (s : List ℕ). draws s q) (put_nil a at)
draws_gone a (r ∷ p) at q = draws_gone (put a r.at r.rest) p at q

rising_down : (low low' : ℕ) (q : List Stretch) (end : ℕ) → low ≤ low' → Rising low' q end → Rising low q end
rising_down low low' [] end h k = omega (arith, h, k)
rising_down low low' (r ∷ q) end h (k, n) = (omega (arith, h, k), n)

rising_gone : (low : ℕ) (p : List Stretch) (at : ℕ) (q : List Stretch) (end : ℕ) → Rising low (p ++ stretch at [] ∷ q) end → Rising low (p ++ q) end
rising_gone low [] at q end (h, k) = rising_down low (at + 0) q end (omega (arith, h)) k
rising_gone low (r ∷ p) at q end (h, k) = (h, rising_gone (r.at + length r.rest) p at q end k)

-- two left out, and the last two: the others still lie in order
pub thinned : (low : ℕ) (p : List Stretch) (s r g h x y : Stretch) (end : ℕ) → Rising low (p ++ s ∷ r ∷ g ∷ h ∷ x ∷ y ∷ []) end → Rising low (p ++ g ∷ h ∷ []) end
thinned low [] s r g h x y end (i, (j, (k, (l, (n, (o, q)))))) = (omega (arith, i, j, k), (l, omega (arith, n, o, q)))
thinned low (t ∷ p) s r g h x y end (i, j) = (i, thinned (t.at + length t.rest) p s r g h x y end j)

pub gone : (a₀ : List ℕ) (low : ℕ) (whole a : List ℕ) (p : List Stretch) (at : ℕ) (z : List ℕ) (q : List Stretch) (end : ℕ)
    → Drawing a₀ low whole a (p ++ stretch at z ∷ q) end → z ≡ [] → Drawing a₀ low whole a (p ++ q) end
gone a₀ low whole a p at z q end h e =
    let k : Drawing a₀ low whole a (p ++ stretch at [] ∷ q) end = rw e at h in
    record { goes = sym (draws_gone a p at q) ∙ k.goes; order = rising_gone low p at q end k.order; room = k.room; long = k.long; same = k.same }

-- what lies below the first stretch of some
pub over : (a₀ : List ℕ) (low : ℕ) (whole a : List ℕ) (p : List Stretch) (at : ℕ) (z : List ℕ) (q : List Stretch) (end : ℕ)
    → Drawing a₀ low whole a (p ++ stretch at z ∷ q) end → low ≤ at
over a₀ low whole a p at z q end h = rising_le low p at (rising-before low p (stretch at z) q end h.order)

-- the end of all
pub drawn-all : (a₀ : List ℕ) (low : ℕ) (whole a : List ℕ) (end : ℕ) → Drawing a₀ low whole a [] end → a ≡ whole
drawn-all a₀ low whole a end h = h.goes

-- ---- slot, record and remote frame of an entry: stores at three stretches

module _ (a₀ : List ℕ) (low : ℕ) (whole a : List ℕ) (pre : List Stretch) (s : ℕ) (zs xs ys : List ℕ) (r : ℕ) (zr xr yr : List ℕ) (mid : List Stretch) (f : ℕ) (zf xf yf : List ℕ) (q : List Stretch) (end : ℕ)
    (h : Drawing a₀ low whole a (pre ++ stretch s zs ∷ stretch r zr ∷ (mid ++ stretch f zf ∷ q)) end) (es : zs ≡ xs ++ ys) (er : zr ≡ xr ++ yr) (ef : zf ≡ xf ++ yf) where
  second : (b : List ℕ) (t : ℕ) (w : List ℕ) → Drawing a₀ low whole b (pre ++ stretch t w ∷ stretch r zr ∷ (mid ++ stretch f zf ∷ q)) end
      → Drawing a₀ low whole b ((pre ++ stretch t w ∷ []) ++ stretch r zr ∷ (mid ++ stretch f zf ∷ q)) end
  second b t w d = subst (λ (ss : List Stretch). Drawing a₀ low whole b ss end) (sym (append_assoc pre (stretch t w ∷ []) (stretch r zr ∷ (mid ++ stretch f zf ∷ q)))) d

  third : (b : List ℕ) (t : ℕ) (w : List ℕ) (u : ℕ) (v : List ℕ) → Drawing a₀ low whole b (pre ++ stretch t w ∷ stretch u v ∷ (mid ++ stretch f zf ∷ q)) end
      → Drawing a₀ low whole b ((pre ++ stretch t w ∷ stretch u v ∷ mid) ++ stretch f zf ∷ q) end
  third b t w u v d = subst (λ (ss : List Stretch). Drawing a₀ low whole b ss end) (sym (append_assoc pre (stretch t w ∷ stretch u v ∷ mid) (stretch f zf ∷ q))) d

  pub three_over : (low ≤ s) × ((low ≤ r) × (low ≤ f))
  three_over = (over a₀ low whole a pre s zs _ end h, (over a₀ low whole a (pre ++ stretch s zs ∷ []) r zr _ end (second a s zs h), over a₀ low whole a (pre ++ stretch s zs ∷ stretch r zr ∷ mid) f zf q end (third a s zs r zr h)))

  pub three_room : (s + length xs ≤ length a) × ((r + length xr ≤ length a) × (f + length xf ≤ length a))
  three_room = (
    drew-room a₀ low whole a pre s zs xs ys _ end h es,
    (drew-room a₀ low whole a (pre ++ stretch s zs ∷ []) r zr xr yr _ end (second a s zs h) er, drew-room a₀ low whole a (pre ++ stretch s zs ∷ stretch r zr ∷ mid) f zf xf yf q end (third a s zs r zr h) ef),
  )

  pub drew_three : (a' : List ℕ) (s' r' f' : ℕ) → a' ≡ put (put (put a s xs) r xr) f xf → s' ≡ s + length xs → r' ≡ r + length xr → f' ≡ f + length xf
      → Drawing a₀ low whole a' (pre ++ stretch s' ys ∷ stretch r' yr ∷ (mid ++ stretch f' yf ∷ q)) end
  drew_three a' s' r' f' ea e₁ e₂ e₃ =
      let d₁ = drew a₀ low whole a pre s zs xs ys (stretch r zr ∷ (mid ++ stretch f zf ∷ q)) end (put a s xs) s' h es refl e₁ in
      let d₂ = drew a₀ low whole (put a s xs) (pre ++ stretch s' ys ∷ []) r zr xr yr (mid ++ stretch f zf ∷ q) end (put (put a s xs) r xr) r' (second (put a s xs) s' ys d₁) er refl e₂ in
      let d₂' : Drawing a₀ low whole (put (put a s xs) r xr) (pre ++ stretch s' ys ∷ stretch r' yr ∷ (mid ++ stretch f zf ∷ q)) end =
      subst (λ (ss : List Stretch). Drawing a₀ low whole (put (put a s xs) r xr) ss end) (append_assoc pre (stretch s' ys ∷ []) (stretch r' yr ∷ (mid ++ stretch f zf ∷ q))) d₂ in
      let d₃ = drew a₀ low whole (put (put a s xs) r xr) (pre ++ stretch s' ys ∷ stretch r' yr ∷ mid) f zf xf yf q end a' f' (third (put (put a s xs) r xr) s' ys r' yr d₂') ef ea e₃ in
      subst (λ (ss : List Stretch). Drawing a₀ low whole a' ss end) (append_assoc pre (stretch s' ys ∷ stretch r' yr ∷ mid) (stretch f' yf ∷ q)) d₃

-- ---- a function's stores at the first stretches of some

draws-append : (a : List ℕ) (p q : List Stretch) → draws a (p ++ q) ≡ draws (draws a p) q
draws-append a [] q = refl
draws-append a (r ∷ p) q = draws-append (put a r.at r.rest) p q

pub rising-after : (low : ℕ) (p : List Stretch) (s : Stretch) (q : List Stretch) (end : ℕ) → Rising low (p ++ s ∷ q) end → Rising (s.at + length s.rest) q end
rising-after low [] s q end (h, k) = k
rising-after low (r ∷ p) s q end (h, k) = rising-after (r.at + length r.rest) p s q end k

rising_join : (low : ℕ) (p : List Stretch) (s : Stretch) (q : List Stretch) (end : ℕ) → Rising low p s.at → Rising (s.at + length s.rest) q end → Rising low (p ++ s ∷ q) end
rising_join low [] s q end h k = (h, k)
rising_join low (r ∷ p) s q end (h, n) k = (h, rising_join (r.at + length r.rest) p s q end n k)

pub rising_up : (low : ℕ) (p : List Stretch) (end end' : ℕ) → end ≤ end' → Rising low p end → Rising low p end'
rising_up low [] end end' h k = omega (arith, h, k)
rising_up low (r ∷ p) end end' h (k, n) = (k, rising_up (r.at + length r.rest) p end end' h n)

-- there is room before the next
pub before-next : (a₀ : List ℕ) (low : ℕ) (whole a : List ℕ) (p : List Stretch) (s : Stretch) (q : List Stretch) (end : ℕ) → Drawing a₀ low whole a (p ++ s ∷ q) end → (s.at ≤ length a) × (Rising low p s.at × Rising low p (length a))
before-next a₀ low whole a p s q end h =
    let b = rising-before low p s q end h.order in
    let n : s.at ≤ length a = omega (arith, rising-from low p s q end h.order, h.room) in
    (n, (b, rising_up low p s.at (length a) n b))

pub drew-on : (a₀ : List ℕ) (low : ℕ) (whole a : List ℕ) (p : List Stretch) (s : Stretch) (q : List Stretch) (end : ℕ) (a' : List ℕ) (p' : List Stretch)
    → Drawing a₀ low whole a (p ++ s ∷ q) end → Drawing a low (draws a p) a' p' s.at → Drawing a₀ low whole a' (p' ++ s ∷ q) end
drew-on a₀ low whole a p s q end a' p' h d =
    record {
      goes = draws-append a' p' (s ∷ q) ∙ ap (λ (x : List ℕ). draws x (s ∷ q)) d.goes ∙ sym (draws-append a p (s ∷ q)) ∙ h.goes;
      order = rising_join low p' s q end d.order (rising-after low p s q end h.order);
      room = omega (arith, h.room, d.long);
      long = d.long ∙ h.long;
      same = d.same ∙ h.same;
    }
