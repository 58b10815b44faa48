-- Marks of who stands in a queue, one of which is set.
use Rattle.std.proofs.Common.{◌≡◌, ℕ, zero, suc, ◌≤◌, Bool, List, [], ◌∷◌, length, set, map, refl, sym, ap, ◌∙◌, arith}
use Rattle.std.proofs.lemmas.List.{map-set}
use Rattle.bng_peer.specs.declared.queue.QueueLink.{QueueLink}
use Rattle.bng_peer.specs.Queue.{stands_at}

-- of links one of which is another
pub of_links : (links : List QueueLink) (number : ℕ) (link : QueueLink) → map (λ (l : QueueLink). l.is_in) (set links number link) ≡ set (map (λ (l : QueueLink). l.is_in) links) number link.is_in
of_links links number link = map-set (λ (l : QueueLink). l.is_in) links number link

-- a mark that is set to what it is
pub as_it_is : (list : List Bool) (number : ℕ) → set list number (stands_at list number) ≡ list
as_it_is [] number = refl
as_it_is (b ∷ list) zero = refl
as_it_is (b ∷ list) (suc number) = ap (λ (rest : List Bool). b ∷ rest) (as_it_is list number)

pub as_it_was : (list : List Bool) (number : ℕ) (b : Bool) → stands_at list number ≡ b → set list number b ≡ list
as_it_was list number b is = ap (set list number) (sym is) ∙ as_it_is list number

-- a mark past the end
pub past_end : (list : List Bool) (number : ℕ) (b : Bool) → length list ≤ number → set list number b ≡ list
past_end [] number b past = refl
past_end (a ∷ list) zero b past = absurd (omega arith)
past_end (a ∷ list) (suc number) b past = ap (λ (rest : List Bool). a ∷ rest) (past_end list number b (omega arith))

pub as_many : (links : List QueueLink) → length (map (λ (l : QueueLink). l.is_in) links) ≡ length links
as_many [] = refl
as_many (l ∷ links) = omega (arith, as_many links)
