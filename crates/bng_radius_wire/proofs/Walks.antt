-- A walk over the attributes of a packet, from one to the next.
use Rattle.std.proofs.Common.{◌≡◌, ◌≢◌, ℕ, ◌+◌, ◌<◌, ◌≤◌, List, [], ◌∷◌, ◌++◌, length, get_or, drop, refl, sym, ap, subst, ◌∙◌, arith, length-append, append_assoc}
use Rattle.std.specs.List.{AllByRecursion}
use Rattle.std.proofs.lemmas.List.{drop_at, drop-drop, get_or-drop, length-drop, append-nil}
use Rattle.std.proofs.lemmas.List.Concat.{flat_map-append}
use Rattle.bng_base.proofs.PieceLaws.{AllByRecursion-push}
use Rattle.bng_radius_wire.specs.declared.kinds.TheConstants.{MESSAGE_AUTHENTICATOR}
use Rattle.bng_radius_wire.specs.Attributes.{Field, text, AreAttributes}
use Rattle.bng_radius_wire.specs.Grammar.{attributes_text}
use Rattle.bng_radius_wire.specs.Places.{IsOther, FirstStandsAt}

-- the first of a list of attributes, as its octets show it
pub record Opens (fs : List Field) (octets : List ℕ) : Type 0 where
  pub here : Field
  pub more : List Field
  pub are : fs ≡ here ∷ more
  pub kind : get_or octets 0 0 ≡ here.kind
  pub size : get_or octets 1 0 ≡ 2 + length here.value
  pub there : 2 + length here.value ≤ length octets
  pub left : AreAttributes more (drop (2 + length here.value) octets)

pub opens : (fs : List Field) (octets : List ℕ) → AreAttributes fs octets → 0 < length octets → Opens fs octets
opens [] octets h some = absurd (omega (arith, ap length h.spelled, some))
opens (f ∷ fs) octets h some =
    let are : octets ≡ text f ++ attributes_text fs = h.spelled in
    record {
      here = f;
      more = fs;
      are = refl;
      kind = ap (λ (o : List ℕ). get_or o 0 0) are;
      size = ap (λ (o : List ℕ). get_or o 1 0) are;
      there = omega (arith, ap length are, length-append f.value (attributes_text fs));
      left = record { fit = h.fit.1; spelled = ap (drop (2 + length f.value)) are ∙ drop_at (text f) (attributes_text fs) (2 + length f.value) (omega arith) };
    }

-- from start the walk has come to this place, and has seen no Message-Authenticator
pub record Walked (fs : List Field) (start at : ℕ) (packet : List ℕ) : Type 0 where
  pub seen : List Field
  pub rest : List Field
  pub are : fs ≡ seen ++ rest
  pub others : AllByRecursion IsOther seen
  pub place : at ≡ start + length (attributes_text seen)
  pub left : AreAttributes rest (drop at packet)

pub walk_begins : (fs : List Field) (start : ℕ) (packet : List ℕ) → AreAttributes fs (drop start packet) → Walked fs start start packet
walk_begins fs start packet h = record { seen = []; rest = fs; are = refl; others = tt; place = omega arith; left = h }

module _ (fs : List Field) (start at : ℕ) (packet : List ℕ) (walked : Walked fs start at packet) (inside : at < length packet) where
  pub next : Opens walked.rest (drop at packet)
  next = opens walked.rest (drop at packet) walked.left (omega (arith, length-drop at packet))

  pub next_kind : get_or packet at 0 ≡ next.here.kind
  next_kind = ap (λ (k : ℕ). get_or packet k 0) (let e : at ≡ at + 0 = omega arith in e) ∙ sym (get_or-drop at packet 0 0) ∙ next.kind

  pub next_size : get_or packet (at + 1) 0 ≡ 2 + length next.here.value
  next_size = sym (get_or-drop at packet 1 0) ∙ next.size

  pub next_there : at + (2 + length next.here.value) ≤ length packet
  next_there = omega (arith, next.there, length-drop at packet)

  pub found : get_or packet at 0 ≡ MESSAGE_AUTHENTICATOR → FirstStandsAt fs start at
  found is = record {
    before = walked.seen;
    here = next.here;
    after = next.more;
    are = walked.are ∙ ap (λ (r : List Field). walked.seen ++ r) next.are;
    others = walked.others;
    kind = sym next_kind ∙ is;
    place = walked.place;
  }

  pub walk_on : get_or packet at 0 ≢ MESSAGE_AUTHENTICATOR → Walked fs start (at + get_or packet (at + 1) 0) packet
  walk_on other = record {
    seen = walked.seen ++ next.here ∷ [];
    rest = next.more;
    are = walked.are ∙ ap (λ (r : List Field). walked.seen ++ r) next.are ∙ sym (append_assoc walked.seen (next.here ∷ []) next.more);
    others = AllByRecursion-push IsOther text walked.seen next.here walked.others (λ e. other (next_kind ∙ e));
    place = omega (arith, walked.place, next_size, ap length (flat_map-append text walked.seen (next.here ∷ [])), length-append (attributes_text walked.seen) (attributes_text (next.here ∷ [])), length-append next.here.value []);
    left = subst (AreAttributes next.more) (drop-drop (2 + length next.here.value) at packet ∙ ap (λ (k : ℕ). drop (at + k) packet) (sym next_size)) next.left;
  }

-- at the end of the packet all attributes were seen
pub walk_ends : (fs : List Field) (start at : ℕ) (packet : List ℕ) → Walked fs start at packet → length packet ≤ at → AllByRecursion IsOther fs
walk_ends fs start at packet walked end = all walked.rest walked.are walked.left
  where
    all : (rest : List Field) → fs ≡ walked.seen ++ rest → AreAttributes rest (drop at packet) → AllByRecursion IsOther fs
    all [] are left = subst (AllByRecursion IsOther) (sym (append-nil walked.seen) ∙ sym are) walked.others
    all (f ∷ rest) are left = absurd (omega (arith, end, ap length left.spelled, length-drop at packet))
