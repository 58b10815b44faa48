-- The protocol of a shard meets the laws of a step.
use Rattle.std.proofs.Common.{◌≡◌, ◌⊎◌, inl, inr, ℕ, ◌+◌, ◌<◌, ◌≤◌, Bool, List, [], ◌∷◌, ◌++◌, Option, Some, IfSome, MatchOption, true, length, map, is_some, count_by, sum_by, if◌then◌else◌, refl, sym, ap, subst, ◌∙◌, arith, append-nil}
use Rattle.std.specs.List.{AllByRecursion}
use Rattle.std.proofs.lemmas.Bool.{false≢true}
use Rattle.std.proofs.lemmas.List.Sums.{sum_by-cons}
use Rattle.bng_base.specs.declared.address.Ip4.{Ip4}
use Rattle.bng_base.specs.declared.item.Charge.{Charge}
use Rattle.bng_base.specs.declared.item.Claim.{Claim}
use Rattle.bng_base.specs.declared.item.OutRecord.{OutRecord}
use Rattle.bng_engine.specs.Lists.{AnyOf, one_if}
use Rattle.bng_engine.specs.Protocol.{StepLaws, Begins, HaveProfiles, IsFor, IsAddressed, IsUnsent, IsOfSeat, IsSpelled}
use Rattle.bng_engine.specs.Sums.{part_of_charge}
use Rattle.bng_engine.specs.Terms.{Key, Term, keys}
use Rattle.bng_engine.proofs.Everywhere.{all_weaker}
use Rattle.bng_steps.specs.declared.rules.Rules.{Rules}
use Rattle.bng_steps.specs.declared.session.Lease.{Lease}
use Rattle.bng_steps.specs.declared.session.Session.{Session}
use Rattle.bng_steps.specs.State.{State, IsTermOf}
use Rattle.bng_steps.specs.Tenures.{Tenure}
use Rattle.bng_steps.specs.Deed.{Deed, at_of, out, is_forwarded}
use Rattle.bng_steps.specs.Frames.{charge_of}
use Rattle.bng_steps.specs.Protocol.{claimed_by, key_in, packet_octets, pppoe, term_in}
use Rattle.bng_steps.specs.Reader.{IsWhole, IsNoPacket, IsInDirection}
use Rattle.bng_steps.specs.Step.{Step}
use Rattle.bng_steps.proofs.Reading.{whole_read}
use Rattle.bng_steps.proofs.Sends.{SendsNone, SendsOne, step_sends}
use Rattle.bng_steps.proofs.Spelling.{IsControl, AreControl}
use Rattle.bng_steps.proofs.TermLaws.{AnyCause, Moves, settled_terms, step_moves, terms_there, zip_keys}

-- Terms -----------------------------------------------------------------------------------------------------------------

keys_more : (ts : List Tenure) (t : Tenure) → keys (map term_in (ts ++ t ∷ [])) ≡ keys (map term_in ts) ++ key_in t ∷ []
keys_more [] t = refl
keys_more (u ∷ ts) t = ap (λ (ks : List Key). key_in u ∷ ks) (keys_more ts t)

profiles_more : (n : ℕ) (ts : List Tenure) (t : Tenure) → HaveProfiles n (map term_in ts) → t.profile < n → HaveProfiles n (map term_in (ts ++ t ∷ []))
profiles_more n [] t have low = (low, tt)
profiles_more n (u ∷ ts) t have low = (have.0, profiles_more n ts t have.1 low)

-- no term begins, or one with the next number, and its address was claimed
begins : (r : Rules) (s : State) (limited : Bool) (d : Deed) → Moves r s limited d → Begins s.begun (keys (terms_there s)) (claimed_by d.entry.claim) d.next.begun (keys (terms_there d.next))
begins r s limited d (inl (none, m)) = record {
  began = [];
  keys = λ f. ap (sum_by f) (zip_keys AnyCause s.terms d.next.terms m.terms ∙ sym (append-nil (keys (terms_there s))));
  leases = sym none;
  numbered = m.begun;
}
begins r s limited d (inr (a, is, may, m)) =
    let later : d.next.begun ≡ (s.begun + 1) = m.begun in
    record {
      began = key_in m.one ∷ [];
      keys = λ f. ap (λ (ts : List Tenure). sum_by f (keys (map term_in ts))) m.terms ∙ ap (sum_by f) (keys_more s.terms m.one);
      leases = ap (λ (b : Ip4). b.0 ∷ []) m.address ∙ sym (ap claimed_by is);
      numbered = (m.serial, later);
    }

few_claims : (r : Rules) (s : State) (limited : Bool) (d : Deed) → Moves r s limited d → length (claimed_by d.entry.claim) ≤ 1
few_claims r s limited d (inl (none, m)) = omega (arith, ap (λ (xs : List ℕ). length xs) none)
few_claims r s limited d (inr (a, is, may, m)) = omega (arith, ap (λ (c : Claim). length (claimed_by c)) is)

none_limited : (r : Rules) (s : State) (limited : Bool) (d : Deed) → Moves r s limited d → limited ≡ true → claimed_by d.entry.claim ≡ []
none_limited r s limited d (inl (none, m)) over = none
none_limited r s limited d (inr (a, is, may, m)) over = absurd (false≢true (sym may ∙ over))

-- a term that begins has a profile of the rules
profiled : (r : Rules) (s : State) (limited : Bool) (d : Deed) → Moves r s limited d → HaveProfiles (length r.profiles) (terms_there s) → HaveProfiles (length r.profiles) (terms_there d.next)
profiled r s limited d (inl (none, m)) have = m.profiles have
profiled r s limited d (inr (a, is, may, m)) have =
    subst (λ (ts : List Tenure). HaveProfiles (length r.profiles) (map term_in ts)) (sym m.terms) (profiles_more (length r.profiles) s.terms m.one have m.profile)

-- a charge is for the session's live term
charged_one : (x : Session) (l : Lease) (input : Bool) (octets : ℕ) (ts : List Tenure) → AnyOf (IsTermOf x l) ts → AnyOf (IsFor (charge_of x l input octets)) (map term_in ts)
charged_one x l input octets [] there = there
charged_one x l input octets (t ∷ ts) (inl is) = inl (record { live = ap (λ (o : Option ℕ). is_some o) is.live; term = is.term; circuit = is.circuit; address = is.address; profile = is.profile })
charged_one x l input octets (t ∷ ts) (inr later) = inr (charged_one x l input octets ts later)

-- Laws of outs ----------------------------------------------------------------------------------------------------------

control_addressed : (seat : ℕ) (terms : List Term) (o : OutRecord) → IsControl seat o → IsAddressed terms o
control_addressed seat terms o h = subst (λ (charge : Option Charge). IfSome charge (λ c. AnyOf (IsFor c) terms)) (sym h.charge) tt

control_whole : (seat : ℕ) (o : OutRecord) → IsControl seat o → IsWhole o
control_whole seat o h = subst (λ (charge : Option Charge). MatchOption charge (IsNoPacket o.role o.frame) (λ c. IsInDirection c.input c o.role o.to o.frame)) (sym h.charge) h.no_packet

-- what holds of what is not charged, and of the one out that is, holds of all
each_out : (P : OutRecord → Type 0) (s : State) (d : Deed) → ((o : OutRecord) → IsControl d.entry.seat o → P o)
    → ((h : SendsOne s d.entry d) → P (out (at_of s d.entry) h.way h.to h.frame (Some (charge_of h.session h.lease h.input h.octets))))
    → SendsNone d.entry d ⊎ SendsOne s d.entry d → AllByRecursion P d.outs
each_out P s d control charged (inl n) = all_weaker (IsControl d.entry.seat) P control d.outs n.outs
each_out P s d control charged (inr h) = subst (λ (outs : List OutRecord). AllByRecursion P outs) (sym h.outs) (charged h, tt)

module _ (r : Rules) (s : State) (limited : Bool) (d : Deed) (h : Step r s limited d) where
  addressed : AllByRecursion (IsAddressed (terms_there s)) d.outs
  addressed = each_out (IsAddressed (terms_there s)) s d (control_addressed d.entry.seat (terms_there s)) (λ o. charged_one o.session o.lease o.input o.octets s.terms o.there) (step_sends r s limited d h)

  -- each datagram is a whole packet as its charge says, or no packet of a subscriber
  pub step_whole : AllByRecursion IsWhole d.outs
  step_whole = each_out IsWhole s d (control_whole d.entry.seat) (λ o. o.spelled) (step_sends r s limited d h)

  spelled : AllByRecursion (IsSpelled pppoe) d.outs
  spelled = all_weaker IsWhole (IsSpelled pppoe) whole_read d.outs step_whole

  unsent : AllByRecursion IsUnsent d.outs
  unsent = each_out IsUnsent s d (λ o c. c.unsent) (λ o. refl) (step_sends r s limited d h)

  seated : AllByRecursion (IsOfSeat d.entry.seat) d.outs
  seated = each_out (IsOfSeat d.entry.seat) s d (λ o c. c.seat_is) (λ o. refl) (step_sends r s limited d h)

-- the steps of a shard meet the laws
pub pppoe_laws : StepLaws pppoe
pppoe_laws = record {
  begins = λ s h is. begins s.rules s.slots h.limited h.deed (step_moves s.rules s.slots h.limited h.deed is.step);
  one_claim = λ s h is. few_claims s.rules s.slots h.limited h.deed (step_moves s.rules s.slots h.limited h.deed is.step);
  limits = λ s h is limited. none_limited s.rules s.slots h.limited h.deed (step_moves s.rules s.slots h.limited h.deed is.step) limited;
  addressed = λ s h is. addressed s.rules s.slots h.limited h.deed is.step;
  spelled = λ s h is. spelled s.rules s.slots h.limited h.deed is.step;
  unsent = λ s h is. unsent s.rules s.slots h.limited h.deed is.step;
  seated = λ s h is. seated s.rules s.slots h.limited h.deed is.step;
  profiled = λ s h is have. profiled s.rules s.slots h.limited h.deed (step_moves s.rules s.slots h.limited h.deed is.step) have;
  profiles_stay = λ s h is. refl;
  settles = λ s f. ap (sum_by f) (settled_terms s.slots);
  settles_begun = λ s. refl;
  settles_profiles = λ s. refl;
}

-- Octets and fates ------------------------------------------------------------------------------------------------------

no_octets : (seat : ℕ) (outs : List OutRecord) → AreControl seat outs → packet_octets outs ≡ 0
no_octets seat [] h = refl
no_octets seat (o ∷ outs) h =
    let here : part_of_charge (λ c. c.octets) o.charge ≡ 0 = rw h.0.charge in
    omega (arith, here, sum_by-cons (λ (x : OutRecord). part_of_charge (λ c. c.octets) x.charge) o outs, no_octets seat outs h.1)

light_outs : (s : State) (d : Deed) → length d.entry.item.frame.payload ≤ 4096 → SendsNone d.entry d ⊎ SendsOne s d.entry d → packet_octets d.outs ≤ 4160
light_outs s d short (inl n) = omega (arith, no_octets d.entry.seat d.outs n.outs)
light_outs s d short (inr h) =
    let one : packet_octets d.outs ≡ 0 + h.octets = ap packet_octets h.outs in
    omega (arith, one, h.short, short)

-- the packets that a step sends are short where its datagram is
pub light : (r : Rules) (s : State) (limited : Bool) (d : Deed) → Step r s limited d → length d.entry.item.frame.payload ≤ 4096 → packet_octets d.outs ≤ 4160
light r s limited d h short = light_outs s d short (step_sends r s limited d h)

-- how many are charged
abbrev pub charged_outs : List OutRecord → ℕ
charged_outs outs = count_by (λ o. is_some o.charge) outs

none_charged : (seat : ℕ) (outs : List OutRecord) → AreControl seat outs → charged_outs outs ≡ 0
none_charged seat [] h = refl
none_charged seat (o ∷ outs) h =
    let here : one_if (is_some o.charge) ≡ 0 = rw h.0.charge in
    omega (arith, here, sum_by-cons (λ (x : OutRecord). one_if (is_some x.charge)) o outs, none_charged seat outs h.1)

fates_of : (s : State) (d : Deed) → SendsNone d.entry d ⊎ SendsOne s d.entry d → charged_outs d.outs ≡ (if is_forwarded d.fate then 1 else 0)
fates_of s d (inl n) = rw n.fate (none_charged d.entry.seat d.outs n.outs)
fates_of s d (inr h) = rw (h.fate, h.outs)

-- one out is charged where the fate is Forwarded, and none elsewhere
pub data_fates : (r : Rules) (s : State) (limited : Bool) (d : Deed) → Step r s limited d → charged_outs d.outs ≡ (if is_forwarded d.fate then 1 else 0)
data_fates r s limited d h = fates_of s d (step_sends r s limited d h)
