-- Over the couplers of a path a telegram comes as far as all of them let it pass and the count lasts: so what is worked out from line to
-- line is what the path says.
use Prim.Native.Nat.{ℕ, zero, suc, ◌+◌, ◌≤◌, ◌<◌}
use mathlib.Core.Bool.{Bool, true, false, cond, ◌&&◌}
use mathlib.Core.List.{List, [], ◌∷◌, ◌++◌}
use mathlib.Core.Path.{◌≡◌, refl, sym, ap, ◌∙◌}
use native.Mathlib.Nat.{add-zero, zero-add}
use native.Mathlib.Numerals.{add-one}
use native.Mathlib.Omega.{arith}
use lib.Dec.{ltb, eqb, leb-suc-suc}
use lib.ListN.{length, get_or, set, length-set, replicate}
use lib.Seq.{get_or-set_same, get_or-set_other}
use borrow.Author.Tests.{eqb-true, eqb-false, lt-ltb, eq-eqb, ne_eqb}
use Rattle.octets.proofs.Truth.{by_cases, never, and-false}
use Rattle.site.specs.WellFormed.{is_among}
use Rattle.tracer.proofs.CountLaws.{lasts-none, lasts-less}
use Rattle.tracer.proofs.Paths.{main-below, depth-main, on-zero, on-next, before_on, before-off, path-climb, path-down, distance-four}
use Rattle.tracer.specs.Lines.{main_side, depth, main_sides, Crossing, path, distance}
use Rattle.tracer.specs.Listing.{all_pass, lasts, is_listed, count_below}
use Rattle.tracer.specs.Reaching.{handed, along, reach, marked, climbing, reach_by, is_forwarded_to, Spread}

-- one path after another
along-append : (f : Crossing → Bool) (c l : ℕ) (p q : List Crossing) → along f c l (p ++ q) ≡ along f c (along f c l p) q
along-append f c l [] q = refl
along-append f c l (x ∷ p) q = along-append f c (handed c l (f x)) p q

pub handed-most : (c l : ℕ) (b : Bool) → handed c l b ≤ suc l
unfolding handed
handed-most c l b = by_cases (ltb 0 l && b && lasts c l) (λ e. rw e (omega arith)) (λ e. rw e (omega arith))

handed-zero : (c : ℕ) (b : Bool) → handed c 0 b ≡ 0
unfolding handed
handed-zero c b = refl

pub along-zero : (f : Crossing → Bool) (c : ℕ) (p : List Crossing) → along f c 0 p ≡ 0
along-zero f c [] = refl
along-zero f c (x ∷ p) = rw (handed-zero c (f x)) (along-zero f c p)

handed-on : (c d : ℕ) (b : Bool) → handed c (suc d) b ≡ cond (b && lasts c (suc d)) (suc (suc d)) 0
unfolding handed
handed-on c d b = rw (lt-ltb 0 (suc d) (omega arith))

-- listed or not: from d couplers crossed on
along-from : (f : Crossing → Bool) (c d : ℕ) (p : List Crossing) → lasts c d ≡ true
    → along f c (suc d) p ≡ cond (all_pass f p && lasts c (d + length p)) (suc (d + length p)) 0
along-from f c d [] h = rw (add-zero d, h) refl
along-from f c d (x ∷ p) h =
    let n : d + suc (length p) ≡ suc d + length p = omega arith in
    rw (n, handed-on c d (f x))
    (by_cases (f x)
    (λ e. by_cases (lasts c (suc d))
    (λ k. rw (e, k) (along-from f c (suc d) p k))
    (λ k. rw (e, k, lasts-less c (suc d) (length p) k, and-false (all_pass f p)) (along-zero f c p)))
    (λ e. rw e (along-zero f c p)))

module _ (f : Crossing → Bool) (s c : ℕ) where
  -- so many lines a telegram has been put on when it comes to a listed line, and to no other it comes
  pub reach-listed : (t : ℕ) → reach f s c t ≡ cond (is_listed f s c t) (suc (distance s t)) 0
  unfolding reach is_listed distance
  reach-listed t = along-from f c 0 (path s t) (lasts-none c) ∙ rw zero-add refl

  pub reach-five : (t : ℕ) → reach f s c t ≤ 5
  reach-five t =
      rw (reach-listed t)
      (by_cases (is_listed f s c t) (λ e. rw e (omega (arith, distance-four s t))) (λ e. rw e (omega arith)))

  -- it was put there over a coupler exactly if it has been put on two lines at least
  pub reach-forwarded : (t : ℕ) → ltb 1 (reach f s c t) ≡ is_forwarded_to f s c t
  unfolding is_forwarded_to
  reach-forwarded t =
      rw (reach-listed t) (by_cases (is_listed f s c t) (λ e. rw e (leb-suc-suc 1 (distance s t))) (λ e. rw e refl))

  pub reach-reached : (t : ℕ) → ltb 0 (reach f s c t) ≡ is_listed f s c t
  reach-reached t =
      rw (reach-listed t) (by_cases (is_listed f s c t) (λ e. rw e (lt-ltb 0 (suc (distance s t)) (omega arith))) (λ e. rw e refl))

-- main sides known, a line is known
pub reach-by : (m : List (List Bool)) (lines : List ℕ) (s c t : ℕ) → ((n : ℕ) → n < t → get_or lines n 0 ≡ reach (marked m) s c n)
    → reach_by m lines s c t ≡ reach (marked m) s c t
unfolding reach_by reach marked
reach-by m lines s c t h =
    by_cases (is_among t (main_sides s))
    (λ e. rw (e, path-climb s t e) refl)
    (λ e.
    let z : t ≡ 0 → ⊥ = λ z. never (sym (on-zero s) ∙ rw z at e) in
    rw (e, path-down s t e, along-append, h (main_side t) (main-below t z)) refl)

pub less-deep : {n m : ℕ} → (n ≡ 0 → ⊥) → m ≡ main_side n → depth m < depth n
less-deep {n} h e = omega (arith, ap depth e, depth-main n h)

-- the way up, coupler after coupler
module _ {from top : ℕ} where
  pub climb-none : from ≡ top → climbing from top ≡ []
  climb-none e = rw (e, before_on top (top ∷ []) (rw (eq-eqb top top refl) refl)) refl

  module _ (d : from ≡ top → ⊥) (e : is_among top (main_sides from) ≡ true) {main : ℕ} (em : main ≡ main_side from) where
    pub climb-less : depth main < depth from
    climb-less = less-deep (on-next top from d e).0 em

    pub climb-on : is_among top (main_sides main) ≡ true
    climb-on = rw em (on-next top from d e).1

    pub climb-more : (m : List (List Bool)) (c l : ℕ) {l' r : ℕ} → l' ≡ handed c l (get_or (get_or m from []) 1 false) → r ≡ along (marked m) c l' (climbing main top)
        → r ≡ along (marked m) c l (climbing from top)
    unfolding marked
    climb-more _ c l el q =
        rw (before-off from (top ∷ []) (on-next top from d e).0 (rw (ne_eqb top from (λ z. d (sym z))) refl)) (rw (el, em) at q)

pub count_most : (f : ℕ → Bool) (n : ℕ) → count_below f n ≤ n
count_most f zero = omega arith
count_most f (suc n) =
    by_cases (f n) (λ e. rw e (omega (arith, count_most f n))) (λ e. rw e (omega (arith, count_most f n)))

zeros : (k n : ℕ) → ◌≡◌ {A = ℕ} (get_or (replicate k 0) n 0) 0
zeros zero n = refl
zeros (suc k) zero = refl
zeros (suc k) (suc n) = zeros k n

-- the lines below i are known, and no line has a number above 5
pub record Spreading (f : Crossing → Bool) (start count : ℕ) (lines : List ℕ) (made i : ℕ) : Type 0 where
  pub most : i ≤ 256
  pub size : length lines ≡ 256
  pub few : (n : ℕ) → get_or lines n 0 ≤ 5
  pub known : (n : ℕ) → n < i → get_or lines n 0 ≡ reach f start count n
  pub forwarded : made ≡ count_below (is_forwarded_to f start count) i

pub spreading-none : (f : Crossing → Bool) (s c : ℕ) (lines : List ℕ) → lines ≡ replicate 256 0 → Spreading f s c lines 0 0
spreading-none f s c lines e =
    record {
      most = omega arith;
      size = ap length e;
      few = λ n. rw e (omega (arith, zeros 256 n));
      known = λ n h. absurd (omega arith);
      forwarded = refl;
    }

module _ {f : Crossing → Bool} {s c : ℕ} {lines : List ℕ} {made i : ℕ} (w : Spreading f s c lines made i) where
  pub made-few : made ≤ 256
  made-few = omega (arith, w.forwarded, count_most (is_forwarded_to f s c) i, w.most)

  pub spreading-all : 256 ≤ i → Spread f s c lines made
  spreading-all h =
      let e : i ≡ 256 = omega (arith, w.most) in
      record { size = w.size; each = rw e at w.known; forwarded = rw e at w.forwarded }

module _ (m : List (List Bool)) {s c : ℕ} {lines : List ℕ} {made i : ℕ} (w : Spreading (marked m) s c lines made i) where
  pub spreading-more : {made' r : ℕ} → i < 256 → r ≡ reach_by m lines s c i → made' ≡ made + cond (ltb 1 r) 1 0
      → Spreading (marked m) s c (set lines i r) made' (i + 1)
  spreading-more {made'} {r} h e added =
      let k : r ≡ reach (marked m) s c i = e ∙ reach-by m lines s c i w.known in
      record {
        most = omega arith;
        size = length-set lines i r ∙ w.size;
        few = λ n. by_cases (eqb n i)
            (λ q. rw (eqb-true n i q, get_or-set_same lines i r 0 (omega (arith, w.size))) (omega (arith, k, reach-five (marked m) s c i)))
            (λ q. rw (get_or-set_other lines i n r 0 (eqb-false n i q)) (w.few n));
        known = λ n l. by_cases (eqb n i)
            (λ q. rw (eqb-true n i q, get_or-set_same lines i r 0 (omega (arith, w.size))) k)
            (λ q. rw (get_or-set_other lines i n r 0 (eqb-false n i q)) (w.known n (omega (arith, eqb-false n i q))));
        forwarded = rw (add-one i, ← w.forwarded, ← reach-forwarded (marked m) s c i, ← k) added;
      }
