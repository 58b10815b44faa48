-- The open Stops of terms before and after another, counted off.
use Rattle.std.proofs.Common.{◌≡◌, ℕ, zero, suc, ◌+◌, ◌<◌, List, [], ◌∷◌, ◌++◌, length, Option, Some, None, ap, ◌∙◌, refl, arith}
use Rattle.std.specs.Prelude.{sum_by, filter_map, slice_get}
use Rattle.std.specs.List.{cons_option}
use Rattle.std.proofs.lemmas.List.Elements.{filter_map-append}
use Rattle.std.proofs.lemmas.List.Sums.{sum_by-cons}
use Rattle.bng_acct.specs.declared.held.Held.{Held}
use Rattle.bng_acct.specs.Spool.{counted, stop_count}

abbrev pub stop_of : Held → Option ℕ
stop_of h = h.stop

abbrev stops : List Held → List ℕ
stops hs = filter_map stop_of hs

length-cons : (o : Option ℕ) (ns : List ℕ) → length (cons_option o ns) ≡ counted o + length ns
length-cons None ns = omega arith
length-cons (Some n) ns = omega arith

length-stops : (hs : List Held) → length (stops hs) ≡ sum_by stop_count hs
length-stops [] = refl
length-stops (h ∷ hs) = omega (arith, length-cons h.stop (stops hs), length-stops hs, sum_by-cons stop_count h hs)

get_front : (xs ys : List ℕ) (i : ℕ) → i < length xs → slice_get (xs ++ ys) i ≡ slice_get xs i
get_front [] ys i p = absurd (omega arith)
get_front (x ∷ xs) ys zero p = refl
get_front (x ∷ xs) ys (suc i) p = get_front xs ys i (omega arith)

get_behind : (xs ys : List ℕ) (i j : ℕ) → i ≡ length xs + j → slice_get (xs ++ ys) i ≡ slice_get ys j
get_behind [] ys i j e = ap (slice_get ys) (omega arith)
get_behind (x ∷ xs) ys zero j e = absurd (omega arith)
get_behind (x ∷ xs) ys (suc i) j e = get_behind xs ys i j (omega arith)

module _ (l : List Held) (h : Held) (r : List Held) (i : ℕ) where
  apart : slice_get (stops (l ++ h ∷ r)) i ≡ slice_get (stops l ++ cons_option h.stop (stops r)) i
  apart = ap (λ (ns : List ℕ). slice_get ns i) (filter_map-append stop_of l (h ∷ r))

  pub place_left : i < sum_by stop_count l → slice_get (filter_map stop_of (l ++ h ∷ r)) i ≡ slice_get (filter_map stop_of l) i
  place_left p = apart ∙ get_front (stops l) (cons_option h.stop (stops r)) i (omega (arith, p, length-stops l))

  pub place_here : (n : ℕ) → h.stop ≡ Some n → i ≡ sum_by stop_count l → slice_get (filter_map stop_of (l ++ h ∷ r)) i ≡ Some n
  place_here n e p = apart ∙ get_behind (stops l) (cons_option h.stop (stops r)) i 0 (omega (arith, p, length-stops l)) ∙ ap (λ (o : Option ℕ). slice_get (cons_option o (stops r)) 0) e

  pub place_right : (n : ℕ) (j : ℕ) → h.stop ≡ Some n → i ≡ sum_by stop_count l + 1 + j → slice_get (filter_map stop_of (l ++ h ∷ r)) i ≡ slice_get (filter_map stop_of r) j
  place_right n j e p = apart ∙ get_behind (stops l) (cons_option h.stop (stops r)) i (suc j) (omega (arith, p, length-stops l)) ∙ ap (λ (o : Option ℕ). slice_get (cons_option o (stops r)) (suc j)) e

  pub place_past : (j : ℕ) → h.stop ≡ None → i ≡ sum_by stop_count l + j → slice_get (filter_map stop_of (l ++ h ∷ r)) i ≡ slice_get (filter_map stop_of r) j
  place_past j e p = apart ∙ get_behind (stops l) (cons_option h.stop (stops r)) i j (omega (arith, p, length-stops l)) ∙ ap (λ (o : Option ℕ). slice_get (cons_option o (stops r)) j) e
