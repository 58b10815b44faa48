-- The colours of the packets for which a session's meter is asked, between two entries that begin its term or change its profile.
use Rattle.std.proofs.Common.{◌≡◌, ◌≢◌, ◌⊎◌, inl, inr, ℕ, ◌+◌, ◌-◌, ◌*◌, ◌%◌, ◌<◌, ◌≤◌, Bool, true, false, not, List, [], ◌∷◌, ◌++◌, length, map, max, Option, Some, None, refl, sym, ap, subst, ◌∙◌, arith}
use Rattle.std.specs.Prelude.{IsSome, nat_le, if◌then◌else◌, option_map, slice_get, slice_index_or, slice_set}
use Rattle.std.specs.List.{All, AllPairs, Contains, range_with_len}
use Rattle.std.proofs.lemmas.Bool.{cases_eq, ne_eqb}
use Rattle.std.proofs.lemmas.List.FromFn.{get_or-map-range_with_len, length-range_with_len}
use Rattle.std.proofs.lemmas.List.Elements.{All-contains}
use Rattle.std.proofs.lemmas.List.{get_or-set_same, get_or-set_other, length-set, length-append, length-map, length-replicate}
use Rattle.bng_base.specs.declared.address.SessionNo.{SessionNo}
use Rattle.bng_base.specs.declared.book.Profile.{Profile}
use Rattle.bng_base.specs.declared.book.Rate.{Rate}
use Rattle.bng_base.specs.declared.fate.DropCause.TheVariants.{Malformed, NoSession, NotOpen, Expired, Spoofed, Exceeded, TooBig}
use Rattle.bng_base.specs.declared.fate.Fate.{Fate}
use Rattle.bng_base.specs.declared.fate.Fate.TheVariants.{Forwarded, Dropped}
use Rattle.bng_base.specs.declared.ipv4.Ipv4.{Ipv4}
use Rattle.bng_base.specs.declared.item.ItemKind.{ItemKind}
use Rattle.bng_base.specs.declared.item.ItemKind.TheVariants.{Access, Core, Tunnel, Verdict, Change, Tick, End}
use Rattle.bng_base.specs.declared.settings.Static.{Static}
use Rattle.bng_base.specs.Ipv4Grammar.{IsIpv4}
use Rattle.bng_base.specs.PppoeGrammar.{PppoeFrame}
use Rattle.bng_coa.specs.Wants.{wanted}
use Rattle.bng_forward.specs.declared.view.TermView.{TermView}
use Rattle.bng_forward.specs.Fates.{Carries, Found as FoundView, Holders, UpFate, DownFate, ExceedsInput, ExceedsOutput}
use Rattle.bng_forward.specs.Meters.{IsRed, spent}
use Rattle.bng_forward.specs.Packets.{HasPacket}
use Rattle.bng_forward.proofs.Readings.{one_frame, one_header}
use Rattle.bng_l2tp_wire.specs.Messages.{DataMessage}
use Rattle.bng_lns.specs.Datagrams.{CarriesOver}
use Rattle.bng_l2tp_wire.proofs.Exact.{one_data}
use Rattle.bng_meter.specs.declared.colour.Colour.{Colour}
use Rattle.bng_meter.specs.declared.colour.Colour.TheVariants.{Green, Yellow, Red}
use Rattle.bng_meter.specs.Bucket.{Buckets, Offer, Rise, colour_of, colours_kept, filled, is_red, kept, started, taken, without}
use Rattle.bng_meter.proofs.Forgetting.{colours_stay}
use Rattle.bng_radius_wire.specs.Grammar.{Packet}
use Rattle.bng_radius_wire.proofs.Exact.{one_packet}
use Rattle.bng_sessions.specs.Sessions.{IsNumberOf, value_at}
use Rattle.bng_steps.specs.declared.meters.Meters.{Meters}
use Rattle.bng_steps.specs.declared.meters.Plan.{Plan}
use Rattle.bng_steps.specs.declared.rules.Rules.{Rules}
use Rattle.bng_steps.specs.declared.session.Lease.{Lease}
use Rattle.bng_steps.specs.declared.session.Session.{Session}
use Rattle.bng_steps.specs.Changes.{Applies, Found, HearsChange, Obeys, changed_by, found_by, place_of, refusal_of}
use Rattle.bng_steps.specs.Course.{Asks, Course, Handles, Settles, IsFrom, IsTo, Move, NoneRenews, Offers, Recasts, Renews, Rises, Stands, fate_by, marked, rate_of}
use Rattle.bng_steps.specs.Datagrams.{HearsTunnelData}
use Rattle.bng_steps.specs.Deed.{Deed, arrival_in, handled}
use Rattle.bng_steps.specs.Frames.{HearsData, HearsFrame, HearsPacket, found_among, found_down, found_up}
use Rattle.bng_steps.specs.Metered.{meters_at, meters_of, no_meters, plan_at, plan_in, spent_input, view_in, view_of}
use Rattle.bng_steps.specs.Opening.{circuit_at, circuit_meters, opened_meters, opened_slots}
use Rattle.bng_steps.specs.Passing.{place_in, with_passed}
use Rattle.bng_steps.specs.State.{State, call_of, holder_of, is_kept, mru_in, passes_in, session_of, settled}
use Rattle.bng_steps.specs.Step.{Hears, Step}
use Rattle.bng_steps.specs.Tenures.{Tenure}
use Rattle.bng_steps.proofs.Changing.{found_is}
use Rattle.bng_steps.proofs.ClaimedTerms.{step_by_claims}
use Rattle.bng_steps.proofs.GrantLaws.{settled_sound, step_sound}
use Rattle.bng_steps.proofs.InOrder.{apart_of, its_circuit}
use Rattle.bng_steps.proofs.Noting.{Noted, Stays, Passes, Starts, Changes, spent_by, step_noted}
use Rattle.bng_steps.proofs.SoundOpening.{opened_sound}
use Rattle.bng_steps.proofs.Tunnelling.{not_both}
use Rattle.bng_steps.proofs.Values.{none_some, same_some}

-- A shard stands -----------------------------------------------------------------------------------------------------------

pub settled_stands : (s : State) → Stands s → Stands (settled s)
settled_stands s h = record { sound = settled_sound s h.sound; passed = h.passed; meters = h.meters }

-- of as many numbers as before there are moments and meters
noted_long : (r : Rules) (s : State) (d : Deed) → Noted r s d → (length d.next.passed ≡ length s.passed) × (length d.next.meters ≡ length s.meters)
noted_long r s d (Stays same) = (ap (λ (p : List Meters × (List ℕ × List Tenure)). length p.1.0) same, ap (λ (p : List Meters × (List ℕ × List Tenure)). length p.0) same)
noted_long r s d (Passes input k x v at asks is) = (
  ap (λ (u : State). length u.passed) is ∙ length-set s.passed (place_in x.number) d.entry.moment,
  ap (λ (u : State). length u.meters) is ∙ length-set s.meters (place_in x.number) _,
)
noted_long r s d (Starts k x plan term at session profile is same) = (
  ap (λ (p : List Meters × (List ℕ × List Tenure)). length p.1.0) same,
  ap (λ (p : List Meters × (List ℕ × List Tenure)). length p.0) same ∙ length-set s.meters (place_in x.number) _,
)
noted_long r s d (Changes f place at recasts same) = (
  ap (λ (p : List Meters × (List ℕ × List Tenure)). length p.1.0) same,
  ap (λ (p : List Meters × (List ℕ × List Tenure)). length p.0) same ∙ length-set s.meters (place_in f.session.number) _,
)

pub step_stands : (r : Rules) (s : State) (limited : Bool) (d : Deed) → Step r s limited d → Stands s → Stands d.next
step_stands r s limited d h stands =
    let long = noted_long r s d (step_noted r s limited d h) in
    record { sound = step_sound r s limited d h stands.sound; passed = long.0 ∙ stands.passed; meters = long.1 ∙ stands.meters }

pub opened_stands : (number : ℕ) (profiles : List Profile) (circuits : List Static) (now : ℕ) → number < 64 → All (λ c. IsNumberOf number c.session.0) circuits → AllPairs (λ a b. a.session ≢ b.session) circuits
    → Stands (opened_slots number profiles circuits now)
unfolding opened_meters
opened_stands number profiles circuits now low own apart = record {
  sound = opened_sound now number circuits apart profiles low own;
  passed = length-replicate {A = ℕ} 1024 0;
  meters = length-map (range_with_len (number * 1024) 1024) (λ (k : ℕ). circuit_meters profiles now (circuit_at circuits k)) ∙ length-range_with_len (number * 1024) 1024;
}

-- Places -------------------------------------------------------------------------------------------------------------------

-- a session's number is one of the shard's
pub number_is : (s : State) (k : ℕ) (x : Session) → Stands s → value_at s.sessions k ≡ Some x → IsNumberOf s.sessions.shard x.number.0
number_is s k x stands at =
    subst (IsNumberOf s.sessions.shard) (sym (stands.sound.own k x at)) (stands.sound.of_shard k (subst IsSome (sym at) refl))

-- two numbers of a shard have two places
pub apart_places : (shard m n : ℕ) → IsNumberOf shard m → IsNumberOf shard n → m ≢ n → m % 1024 ≢ n % 1024
apart_places shard m n a b differ same = differ (omega (arith, a.0, a.1, b.0, b.1, same))

pub shard_kept : (r : Rules) (s : State) (limited : Bool) (d : Deed) → Step r s limited d → d.next.sessions.shard ≡ s.sessions.shard
shard_kept r s limited d h = (step_by_claims r s limited d h).shard

-- the meter of a direction
abbrev one_of : Bool → Meters → Option Buckets
one_of true ms = ms.input
one_of false ms = ms.output

abbrev meter : Bool → ℕ → State → Option Buckets
meter input n s = one_of input (slice_index_or s.meters (n % 1024) no_meters)

-- of the other direction it stays
other_way : (input : Bool) (ms : Meters) (now octets : ℕ) → one_of input (spent_by (not input) ms now octets) ≡ one_of input ms
other_way true ms now octets = refl
other_way false ms now octets = refl

same_way : (input : Bool) (ms : Meters) (now octets : ℕ) → one_of input (spent_by input ms now octets) ≡ spent (one_of input ms) now octets
same_way true ms now octets = refl
same_way false ms now octets = refl

which_way : (a b : Bool) → (a ≡ b) ⊎ (a ≡ not b)
which_way true true = inl refl
which_way true false = inr refl
which_way false true = inr refl
which_way false false = inl refl

-- Entries for which a meter is not asked -----------------------------------------------------------------------------------

module _ (r : Rules) (s : State) (limited : Bool) (d : Deed) (input : Bool) (n : ℕ) (stands : Stands s) (number : IsNumberOf s.sessions.shard n) where
  -- what is put at another number
  elsewhere : (k : ℕ) (x : Session) (ms : Meters) → value_at s.sessions k ≡ Some x → x.number.0 ≢ n → slice_index_or (slice_set s.meters (place_in x.number) ms) (n % 1024) no_meters ≡ slice_index_or s.meters (n % 1024) no_meters
  elsewhere k x ms at differ =
      get_or-set_other s.meters (place_in x.number) (n % 1024) ms no_meters (λ e. apart_places s.sessions.shard x.number.0 n (number_is s k x stands at) number differ (sym e))

  -- what is put at this one
  here : (x : Session) (ms : Meters) → x.number.0 ≡ n → slice_index_or (slice_set s.meters (place_in x.number) ms) (n % 1024) no_meters ≡ ms
  here x ms same =
      ap (λ (k : ℕ). slice_index_or (slice_set s.meters (place_in x.number) ms) (k % 1024) no_meters) (sym same)
      ∙ get_or-set_same s.meters (place_in x.number) ms no_meters (omega (arith, stands.meters))

  unasked_noted : ((offer : Offer) (red : Bool) → ¬ (Asks input n r s d offer red)) → ((place : ℕ) → ¬ (Renews r s d n place)) → Noted r s d → meter input n d.next ≡ meter input n s
  unasked_noted none stays (Stays same) = ap (λ (p : List Meters × (List ℕ × List Tenure)). one_of input (slice_index_or p.0 (n % 1024) no_meters)) same
  unasked_noted none stays (Passes way k x v at asks is) =
      let ms = meters_at s.meters x.number in
      let now = d.entry.moment in
      ap (meter input n) is ∙ elim (cases_eq x.number.0 n) [
        | inr differ ↦ ap (one_of input) (elsewhere k x (spent_by way ms now v.total) at differ)
        | inl same ↦ elim (which_way way input) [
          | inl e ↦ absurd (none (now, v.total) false (subst (λ (b : Bool). Asks b n r s d (now, v.total) false) e (subst (λ (m : ℕ). Asks way m r s d (now, v.total) false) same asks)))
          | inr e ↦
              ap (one_of input) (here x (spent_by way ms now v.total) same) ∙ ap (λ (b : Bool). one_of input (spent_by b ms now v.total)) e ∙ other_way input ms now v.total
              ∙ ap (λ (m : ℕ). one_of input (slice_index_or s.meters (m % 1024) no_meters)) same
        ]
      ]
  unasked_noted none stays (Starts k x plan term at session profile is same) =
      ap (λ (p : List Meters × (List ℕ × List Tenure)). one_of input (slice_index_or p.0 (n % 1024) no_meters)) same ∙ elim (cases_eq x.number.0 n) [
        | inr differ ↦ ap (one_of input) (elsewhere k x (meters_of plan d.entry.moment) at differ)
        | inl e ↦
            absurd
            (stays plan.profile
            (inl (record { term = term; news = ap (λ (p : List Meters × (List ℕ × List Tenure)). p.1.1) same; session = ap (λ (m : SessionNo). m.0) session ∙ e; profile = profile })))
      ]
  unasked_noted none stays (Changes f place at recasts same) =
      ap (λ (p : List Meters × (List ℕ × List Tenure)). one_of input (slice_index_or p.0 (n % 1024) no_meters)) same ∙ elim (cases_eq f.session.number.0 n) [
        | inr differ ↦ ap (one_of input) (elsewhere f.term.term.session.0 f.session (meters_of (plan_at r.profiles place) d.entry.moment) at differ)
        | inl e ↦ absurd (stays place (inr (subst (λ (m : ℕ). Recasts r s d m place) (sym (stands.sound.own f.term.term.session.0 f.session at) ∙ e) recasts)))
      ]

-- Entries that renew -------------------------------------------------------------------------------------------------------

rate_is : (input : Bool) (profiles : List Profile) (place now : ℕ) → one_of input (meters_of (plan_at profiles place) now) ≡ option_map (λ (q : Rate). started q now) (rate_of input (slice_get profiles place))
rate_is input profiles place now = by_profile input (slice_get profiles place)
  where
    by_profile : (b : Bool) (o : Option Profile) → one_of b (meters_of (plan_in place o) now) ≡ option_map (λ (q : Rate). started q now) (rate_of b o)
    by_profile true None = refl
    by_profile false None = refl
    by_profile true (Some p) = refl
    by_profile false (Some p) = refl

-- a list with one more is another one
one_more : {X : Type 0} (xs : List X) (x : X) → xs ≡ xs ++ x ∷ [] → ⊥
one_more xs x e = absurd (omega (arith, ap length e, length-append xs (x ∷ [])))

last_same : {X : Type 0} (xs : List X) (x y : X) → xs ++ x ∷ [] ≡ xs ++ y ∷ [] → x ≡ y
last_same [] x y e = cc
last_same (z ∷ xs) x y e = last_same xs x y (cc)

module _ (r : Rules) (s : State) (limited : Bool) (d : Deed) (input : Bool) (n place : ℕ) (stands : Stands s) where
  abbrev Fresh : Type 0
  Fresh = IsNumberOf s.sessions.shard n × (meter input n d.next ≡ option_map (λ (q : Rate). started q d.entry.moment) (rate_of input (slice_get r.profiles place)))

  begun_noted : (term : Tenure) → d.next.news ≡ s.news ++ term ∷ [] → term.term.session.0 ≡ n → term.profile ≡ place → Noted r s d → Fresh
  begun_noted term news session profile (Stays same) = absurd (one_more s.news term (sym (ap (λ (p : List Meters × (List ℕ × List Tenure)). p.1.1) same) ∙ news))
  begun_noted term news session profile (Passes way k x v at asks is) = absurd (one_more s.news term (sym (ap (λ (u : State). u.news) is) ∙ news))
  begun_noted term news session profile (Changes f other at recasts same) = absurd (one_more s.news term (sym (ap (λ (p : List Meters × (List ℕ × List Tenure)). p.1.1) same) ∙ news))
  begun_noted term news session profile (Starts k x plan own at of_session under is same) =
      let one : own ≡ term = last_same s.news own term (sym (ap (λ (p : List Meters × (List ℕ × List Tenure)). p.1.1) same) ∙ news) in
      let its : x.number.0 ≡ n = sym (ap (λ (m : SessionNo). m.0) of_session) ∙ ap (λ (t : Tenure). t.term.session.0) one ∙ session in
      let where_ : plan.profile ≡ place = sym under ∙ ap (λ (t : Tenure). t.profile) one ∙ profile in (
        subst (IsNumberOf s.sessions.shard) its (number_is s k x stands at),
        ap (λ (p : List Meters × (List ℕ × List Tenure)). one_of input (slice_index_or p.0 (n % 1024) no_meters)) same
            ∙ ap (λ (m : ℕ). one_of input (slice_index_or (slice_set s.meters (place_in x.number) (meters_of plan d.entry.moment)) (m % 1024) no_meters)) (sym its)
            ∙ ap (one_of input) (get_or-set_same s.meters (place_in x.number) (meters_of plan d.entry.moment) no_meters (omega (arith, stands.meters)))
            ∙ ap (λ (q : Plan). one_of input (meters_of q d.entry.moment)) (is ∙ ap (plan_at r.profiles) where_)
            ∙ rate_is input r.profiles place d.entry.moment,
      )

  recast_does : (rec : Recasts r s d n place) → HearsChange r s d.entry d → d ≡ handled s d.entry [] (changed_by r s d.entry rec.packet rec.found)
  recast_does rec (inl (none, h)) = absurd (none rec.packet rec.reads)
  recast_does rec (inr (p, reads, obeys)) =
      let same : p ≡ rec.packet = one_packet p rec.packet d.entry.item.frame.payload reads.packet rec.reads.packet in
      let by_packet : Obeys (refusal_of r rec.packet) (found_by r s rec.packet.attributes) r s d.entry rec.packet d = subst (λ (q : Packet). Obeys (refusal_of r q) (found_by r s q.attributes) r s d.entry q d) same obeys in
      let by_found : Obeys (refusal_of r rec.packet) (Some rec.found) r s d.entry rec.packet d = subst (λ (o : Option Found). Obeys (refusal_of r rec.packet) o r s d.entry rec.packet d) rec.found_is by_packet in
      applied rec.packet rec.found rec.code (subst (λ (o : Option ℕ). Obeys o (Some rec.found) r s d.entry rec.packet d) rec.granted by_found)
    where
      applied : (q : Packet) (f : Found) → q.code ≡ 43 → Applies r s d.entry q f d → d ≡ handled s d.entry [] (changed_by r s d.entry q f)
      applied q f code (inl (is, h)) = h
      applied q f code (inr (other, outs, s', loses, h)) = absurd (other code)

  recast_fresh : (rec : Recasts r s d n place) → Step r s limited d → Fresh
  recast_fresh rec h =
      let f = rec.found in
      let does = recast_does rec (subst (λ (k : ItemKind). Hears k r s limited d.entry d) rec.kind h.hears) in
      let at = (found_is r s rec.packet.attributes f rec.found_is).at in
      let own : f.session.number.0 ≡ n = stands.sound.own f.term.term.session.0 f.session at ∙ rec.session in
      let new = place_of f.term.profile (wanted r.profiles rec.packet) in
      let fresh = slice_set s.meters (place_in f.session.number) (meters_of (plan_at r.profiles new) d.entry.moment) in (
        subst (IsNumberOf s.sessions.shard) own (number_is s f.term.term.session.0 f.session stands at),
        ap (λ (g : Deed). meter input n g.next) does
            ∙ ap (λ (b : Bool). one_of input (slice_index_or (if b then s.meters else fresh) (n % 1024) no_meters)) (ne_eqb f.term.profile new (λ e. rec.other (e ∙ rec.wants)))
            ∙ ap (λ (m : ℕ). one_of input (slice_index_or fresh (m % 1024) no_meters)) (sym own)
            ∙ ap (one_of input) (get_or-set_same s.meters (place_in f.session.number) (meters_of (plan_at r.profiles new) d.entry.moment) no_meters (omega (arith, stands.meters)))
            ∙ ap (λ (k : ℕ). one_of input (meters_of (plan_at r.profiles k) d.entry.moment)) rec.wants
            ∙ rate_is input r.profiles place d.entry.moment,
      )

  renewed_fresh : Step r s limited d → Renews r s d n place → Fresh
  renewed_fresh h (inl begins) = begun_noted begins.term begins.news begins.session begins.profile (step_noted r s limited d h)
  renewed_fresh h (inr recasts) = recast_fresh recasts h

-- Fates --------------------------------------------------------------------------------------------------------------------

-- the last row alone drops a packet as Exceeded
exceeded_up : (found : FoundView) (now : ℕ) (info : List ℕ) (fate : Fate) → fate ≡ Dropped Exceeded → UpFate found now info fate → ExceedsInput found now info
exceeded_up found now info fate e (inl (h, is)) = absurd (let bad : Dropped NoSession ≡ Dropped Exceeded = sym is ∙ e in cc)
exceeded_up found now info fate e (inr (n1, inl (h, is))) = absurd (let bad : Dropped NotOpen ≡ Dropped Exceeded = sym is ∙ e in cc)
exceeded_up found now info fate e (inr (n1, inr (n2, inl (h, is)))) = absurd (let bad : Dropped Malformed ≡ Dropped Exceeded = sym is ∙ e in cc)
exceeded_up found now info fate e (inr (n1, inr (n2, inr (n3, inl (h, is))))) = absurd (let bad : Dropped Expired ≡ Dropped Exceeded = sym is ∙ e in cc)
exceeded_up found now info fate e (inr (n1, inr (n2, inr (n3, inr (n4, inl (h, is)))))) = absurd (let bad : Dropped Spoofed ≡ Dropped Exceeded = sym is ∙ e in cc)
exceeded_up found now info fate e (inr (n1, inr (n2, inr (n3, inr (n4, inr (n5, inl (h, is))))))) = h
exceeded_up found now info fate e (inr (n1, inr (n2, inr (n3, inr (n4, inr (n5, inr (n6, is))))))) = absurd (let bad : Forwarded ≡ Dropped Exceeded = sym is ∙ e in cc)

passed_up : (found : FoundView) (now : ℕ) (info : List ℕ) (fate : Fate) → fate ≡ Forwarded → UpFate found now info fate → ¬ (ExceedsInput found now info)
passed_up found now info fate e (inl (h, is)) = absurd (let bad : Dropped NoSession ≡ Forwarded = sym is ∙ e in cc)
passed_up found now info fate e (inr (n1, inl (h, is))) = absurd (let bad : Dropped NotOpen ≡ Forwarded = sym is ∙ e in cc)
passed_up found now info fate e (inr (n1, inr (n2, inl (h, is)))) = absurd (let bad : Dropped Malformed ≡ Forwarded = sym is ∙ e in cc)
passed_up found now info fate e (inr (n1, inr (n2, inr (n3, inl (h, is))))) = absurd (let bad : Dropped Expired ≡ Forwarded = sym is ∙ e in cc)
passed_up found now info fate e (inr (n1, inr (n2, inr (n3, inr (n4, inl (h, is)))))) = absurd (let bad : Dropped Spoofed ≡ Forwarded = sym is ∙ e in cc)
passed_up found now info fate e (inr (n1, inr (n2, inr (n3, inr (n4, inr (n5, inl (h, is))))))) = absurd (let bad : Dropped Exceeded ≡ Forwarded = sym is ∙ e in cc)
passed_up found now info fate e (inr (n1, inr (n2, inr (n3, inr (n4, inr (n5, inr (n6, is))))))) = n6

exceeded_down : (holder : Holders) (now : ℕ) (octets : List ℕ) (fate : Fate) → fate ≡ Dropped Exceeded → DownFate holder now octets fate → HasPacket (ExceedsOutput holder now) octets
exceeded_down holder now octets fate e (inl (h, is)) = absurd (let bad : Dropped Malformed ≡ Dropped Exceeded = sym is ∙ e in cc)
exceeded_down holder now octets fate e (inr (n1, inl (h, is))) = absurd (let bad : Dropped NoSession ≡ Dropped Exceeded = sym is ∙ e in cc)
exceeded_down holder now octets fate e (inr (n1, inr (n2, inl (h, is)))) = absurd (let bad : Dropped NotOpen ≡ Dropped Exceeded = sym is ∙ e in cc)
exceeded_down holder now octets fate e (inr (n1, inr (n2, inr (n3, inl (h, is))))) = absurd (let bad : Dropped Expired ≡ Dropped Exceeded = sym is ∙ e in cc)
exceeded_down holder now octets fate e (inr (n1, inr (n2, inr (n3, inr (n4, inl (h, is)))))) = absurd (let bad : Dropped TooBig ≡ Dropped Exceeded = sym is ∙ e in cc)
exceeded_down holder now octets fate e (inr (n1, inr (n2, inr (n3, inr (n4, inr (n5, inl (h, is))))))) = h
exceeded_down holder now octets fate e (inr (n1, inr (n2, inr (n3, inr (n4, inr (n5, inr (n6, is))))))) = absurd (let bad : Forwarded ≡ Dropped Exceeded = sym is ∙ e in cc)

passed_down : (holder : Holders) (now : ℕ) (octets : List ℕ) (fate : Fate) → fate ≡ Forwarded → DownFate holder now octets fate → ¬ (HasPacket (ExceedsOutput holder now) octets)
passed_down holder now octets fate e (inl (h, is)) = absurd (let bad : Dropped Malformed ≡ Forwarded = sym is ∙ e in cc)
passed_down holder now octets fate e (inr (n1, inl (h, is))) = absurd (let bad : Dropped NoSession ≡ Forwarded = sym is ∙ e in cc)
passed_down holder now octets fate e (inr (n1, inr (n2, inl (h, is)))) = absurd (let bad : Dropped NotOpen ≡ Forwarded = sym is ∙ e in cc)
passed_down holder now octets fate e (inr (n1, inr (n2, inr (n3, inl (h, is))))) = absurd (let bad : Dropped Expired ≡ Forwarded = sym is ∙ e in cc)
passed_down holder now octets fate e (inr (n1, inr (n2, inr (n3, inr (n4, inl (h, is)))))) = absurd (let bad : Dropped TooBig ≡ Forwarded = sym is ∙ e in cc)
passed_down holder now octets fate e (inr (n1, inr (n2, inr (n3, inr (n4, inr (n5, inl (h, is))))))) = absurd (let bad : Dropped Exceeded ≡ Forwarded = sym is ∙ e in cc)
passed_down holder now octets fate e (inr (n1, inr (n2, inr (n3, inr (n4, inr (n5, inr (n6, is))))))) = n6

red_forwarded : (red : Bool) → fate_by red ≡ Forwarded → red ≡ false
red_forwarded true e = absurd (cc)
red_forwarded false e = refl

red_other : (red : Bool) → fate_by red ≢ Forwarded → red ≡ true
red_other true e = refl
red_other false e = absurd (e refl)

-- Entries for which a meter is asked ---------------------------------------------------------------------------------------

abbrev made_view : Meters → Session → Lease → TermView
made_view ms x l = record { lease = l.address; opened = passes_in x.service; mru = mru_in x.service; input = ms.input; output = ms.output }

-- the meters of a session's view are the session's
its_meters : (ms : Meters) (x : Session) (view : TermView) → view_of ms x ≡ Some view → (view.input ≡ ms.input) × (view.output ≡ ms.output)
its_meters ms x view e =
    elim x.lease as (λ (o : Option Lease). option_map (made_view ms x) o ≡ Some view → (view.input ≡ ms.input) × (view.output ≡ ms.output)) [
      | None ↦ λ none. absurd (none_some view none)
      | Some l ↦ λ is. let same = same_some (made_view ms x l) view is in (ap (λ (v : TermView). v.input) (sym same), ap (λ (v : TermView). v.output) (sym same))
    ] e

its_view : (ms : Meters) (x : Session) (l : Lease) → x.lease ≡ Some l → (view : TermView) × (view_of ms x ≡ Some view)
its_view ms x l leased = (made_view ms x l, ap (option_map (made_view ms x)) leased)

-- so the packet went on and took its tokens, or was Red and took none
abbrev pub Answered : Bool → ℕ → State → State → (now octets : ℕ) → Bool → Type 0
Answered input n s s' now octets red =
    ((red ≡ false) × (meter input n s' ≡ spent (meter input n s) now octets) × (¬ (IsRed (meter input n s) now octets)))
    ⊎ ((red ≡ true) × (meter input n s' ≡ meter input n s) × IsRed (meter input n s) now octets)

module _ (r : Rules) (s : State) (limited : Bool) (d : Deed) (n : ℕ) (stands : Stands s) where
  own_place : (input : Bool) (x : Session) → x.number.0 ≡ n → one_of input (meters_at s.meters x.number) ≡ meter input n s
  own_place input x same = ap (λ (m : ℕ). one_of input (slice_index_or s.meters (m % 1024) no_meters)) same

  -- a packet that went on
  took : (input : Bool) (x : Session) (octets : ℕ) → x.number.0 ≡ n → d.next ≡ with_passed s x.number d.entry.moment (spent_by input (meters_at s.meters x.number) d.entry.moment octets)
      → meter input n d.next ≡ spent (meter input n s) d.entry.moment octets
  took input x octets same is =
      let ms = spent_by input (meters_at s.meters x.number) d.entry.moment octets in
      ap (meter input n) is
      ∙ ap (λ (m : ℕ). one_of input (slice_index_or (slice_set s.meters (place_in x.number) ms) (m % 1024) no_meters)) (sym same)
      ∙ ap (one_of input) (get_or-set_same s.meters (place_in x.number) ms no_meters (omega (arith, stands.meters)))
      ∙ same_way input (meters_at s.meters x.number) d.entry.moment octets
      ∙ ap (λ (o : Option Buckets). spent o d.entry.moment octets) (own_place input x same)

  up_answered : (x : Session) (info : List ℕ) (v : Ipv4) (red : Bool) → IsIpv4 v info → x.number.0 ≡ n → d.fate ≡ fate_by red → HearsData r s d.entry (Some x) info d → Answered true n s d.next d.entry.moment v.total red
  up_answered x info v red reads same fate (f, row, inl (goes, h)) =
      let one : x ≡ h.x = same_some x h.x h.there in
      let header : h.header ≡ v = one_header h.header v info h.passed.was reads in
      let its : h.x.number.0 ≡ n = ap (λ (y : Session). y.number.0) (sym one) ∙ same in
      let view = its_view (meters_at s.meters h.x.number) h.x h.lease h.live in
      let inside = (its_meters (meters_at s.meters h.x.number) h.x view.0 view.1).0 in
      inl (
        red_forwarded red (sym fate ∙ ap (λ (g : Deed). g.fate) h.done),
        took true h.x v.total its (ap (λ (g : Deed). g.next) h.done ∙ ap (λ (w : Ipv4). with_passed s h.x.number d.entry.moment (spent_input (meters_at s.meters h.x.number) d.entry.moment w.total)) header),
        (λ is.
            passed_up (found_up s (Some x)) d.entry.moment info f goes row
            (view.0, ap (λ (y : Session). Some (view_in s.meters y)) one ∙ ap (λ (o : Option TermView). Some o) view.1, (v, reads, subst (λ (o : Option Buckets). IsRed o d.entry.moment v.total) (sym (inside ∙ own_place true h.x its)) is))),
      )
  up_answered x info v red reads same fate (f, row, inr (stays, h)) =
      let its : f ≡ fate_by red = sym (ap (λ (g : Deed). g.fate) h) ∙ fate in
      let is_red_one = red_other red (λ e. stays (its ∙ e)) in
      let (view, found, (w, reads', exceeds)) = exceeded_up (found_up s (Some x)) d.entry.moment info f (its ∙ ap fate_by is_red_one) row in
      let inside = (its_meters (meters_at s.meters x.number) x view (same_some (view_in s.meters x) (Some view) found)).0 in
      inr (
        is_red_one,
        ap (λ (g : Deed). meter true n g.next) h,
        subst (λ (o : Option Buckets). IsRed o d.entry.moment v.total) (inside ∙ own_place true x same) (subst (λ (u : Ipv4). IsRed view.input d.entry.moment u.total) (one_header w v info reads' reads) exceeds),
      )

  down_answered : (x : Session) (v : Ipv4) (red : Bool) → IsIpv4 v d.entry.item.frame.payload → holder_of s v.dst ≡ Some x → x.number.0 ≡ n → d.fate ≡ fate_by red → HearsPacket r s d.entry v d
      → Answered false n s d.next d.entry.moment v.total red
  down_answered x v red reads held same fate (f, row, inl (goes, h)) =
      let one : x ≡ h.x = same_some x h.x (sym held ∙ h.found) in
      let its : h.x.number.0 ≡ n = ap (λ (y : Session). y.number.0) (sym one) ∙ same in
      let view = its_view (meters_at s.meters h.x.number) h.x h.lease h.live in
      let inside = (its_meters (meters_at s.meters h.x.number) h.x view.0 view.1).1 in
      inl (
        red_forwarded red (sym fate ∙ ap (λ (g : Deed). g.fate) h.done),
        took false h.x v.total its (ap (λ (g : Deed). g.next) h.done),
        (λ is.
            passed_down (found_down s) d.entry.moment d.entry.item.frame.payload f goes row
            (v, reads, (view.0, its_found h.x h.found ∙ view.1, subst (λ (o : Option Buckets). IsRed o d.entry.moment v.total) (sym (inside ∙ own_place false h.x its)) is))),
      )
    where
      its_found : (y : Session) → holder_of s v.dst ≡ Some y → found_down s v.dst ≡ view_in s.meters y
      its_found y e = ap (λ (o : Option Session). found_among s.meters o (is_kept s v.dst) v.dst) e
  down_answered x v red reads held same fate (f, row, inr (stays, h)) =
      let its : f ≡ fate_by red = sym (ap (λ (g : Deed). g.fate) h) ∙ fate in
      let is_red_one = red_other red (λ e. stays (its ∙ e)) in
      let (w, reads', (view, found, exceeds)) = exceeded_down (found_down s) d.entry.moment d.entry.item.frame.payload f (its ∙ ap fate_by is_red_one) row in
      let header : w ≡ v = one_header w v d.entry.item.frame.payload reads' reads in
      let there : view_in s.meters x ≡ Some view = sym (ap (λ (o : Option Session). found_among s.meters o (is_kept s v.dst) v.dst) held) ∙ ap (λ (u : Ipv4). found_down s u.dst) (sym header) ∙ found in
      let inside = (its_meters (meters_at s.meters x.number) x view there).1 in
      inr (
        is_red_one,
        ap (λ (g : Deed). meter false n g.next) h,
        subst (λ (o : Option Buckets). IsRed o d.entry.moment v.total) (inside ∙ own_place false x same) (subst (λ (u : Ipv4). IsRed view.output d.entry.moment u.total) header exceeds),
      )

  frame_data : (number : ℕ) (p : PppoeFrame) (x : Session) (info : List ℕ) → Carries p info → session_of s number p.src p.session ≡ Some x → HearsFrame r s d.entry number p d → HearsData r s d.entry (Some x) info d
  frame_data number p x info carries there (inl (info', carries', h)) =
      let same : info' ≡ info = carries'.ppp.info ∙ sym carries.ppp.info in
      subst (λ (o : Option Session). HearsData r s d.entry o info d) there (subst (λ (xs : List ℕ). HearsData r s d.entry (session_of s number p.src p.session) xs d) same h)
  frame_data number p x info carries there (inr (inl (names, none, h))) = absurd (none info carries)
  frame_data number p x info carries there (inr (inr (before, h))) = absurd (before (inl carries.session))

  pub data_of : (kind : ItemKind) (x : Session) (info : List ℕ) → IsFrom kind r s d.entry x info → Hears kind r s limited d.entry d → HearsData r s d.entry (Some x) info d
  data_of (Access number) x info (p, is, carries, there) (inl (none, h)) = absurd (none p is)
  data_of (Access number) x info (p, is, carries, there) (inr (q, is', h)) =
      frame_data number p x info carries there (subst (λ (w : PppoeFrame). HearsFrame r s d.entry number w d) (one_frame r.access number (arrival_in d.entry) q p is' is) h)
  data_of Core x info from h = absurd from
  data_of Tunnel x info (p, came, carries, there) (inl (neither, h)) = absurd (neither.no_data p came)
  data_of Tunnel x info (p, came, carries, there) (inr (inl (m, is, h))) = absurd (not_both d.entry.item.frame.payload m p is.message came.message)
  data_of Tunnel x info (p, came, carries, there) (inr (inr (q, is, h))) =
      tunnel_data p x info carries there (subst (λ (w : DataMessage). HearsTunnelData r s d.entry w d) (one_data q p d.entry.item.frame.payload is.message came.message) h)
    where
      tunnel_data : (w : DataMessage) (y : Session) (octets : List ℕ) → CarriesOver w octets → call_of s d.entry.item.from w.tunnel w.session ≡ Some y → HearsTunnelData r s d.entry w d → HearsData r s d.entry (Some y) octets d
      tunnel_data w y octets has at (inl (octets', has', k)) =
          let same : octets' ≡ octets = has'.info ∙ sym has.info in
          subst (λ (o : Option Session). HearsData r s d.entry o octets d) at (subst (λ (xs : List ℕ). HearsData r s d.entry (call_of s d.entry.item.from w.tunnel w.session) xs d) same k)
      tunnel_data w y octets has at (inr (none, k)) = absurd (none octets has)
  data_of Verdict x info from h = absurd from
  data_of Change x info from h = absurd from
  data_of Tick x info from h = absurd from
  data_of End x info from h = absurd from

  pub packet_of : (kind : ItemKind) (x : Session) (v : Ipv4) → IsTo kind r s d.entry x v → Hears kind r s limited d.entry d → IsIpv4 v d.entry.item.frame.payload × (holder_of s v.dst ≡ Some x) × HearsPacket r s d.entry v d
  packet_of (Access number) x v to h = absurd to
  packet_of Core x v (is, held) (inl (none, h)) = absurd (none v is)
  packet_of Core x v (is, held) (inr (w, is', h)) = (is.packet, held, subst (λ (u : Ipv4). HearsPacket r s d.entry u d) (one_header w v (arrival_in d.entry).octets is'.packet is.packet) h)
  packet_of Tunnel x v to h = absurd to
  packet_of Verdict x v to h = absurd to
  packet_of Change x v to h = absurd to
  packet_of Tick x v to h = absurd to
  packet_of End x v to h = absurd to

  asked_answered : (input : Bool) (offer : Offer) (red : Bool) → Step r s limited d → Asks input n r s d offer red → (octets : ℕ) × (offer ≡ (d.entry.moment, octets)) × Answered input n s d.next d.entry.moment octets red
  asked_answered true offer red h asks =
      let (info, from, reads) = asks.crosses in
      (asks.header.total, asks.offer_is, up_answered asks.session info asks.header red reads asks.number asks.fate (data_of d.entry.item.kind asks.session info from h.hears))
  asked_answered false offer red h asks =
      let (reads, held, hears) = packet_of d.entry.item.kind asks.session asks.header asks.crosses h.hears in
      (asks.header.total, asks.offer_is, down_answered asks.session asks.header red reads held asks.number asks.fate hears)

-- A journal ----------------------------------------------------------------------------------------------------------------

not_red : (c : Colour) → c ≢ Red → is_red c ≡ false
not_red Green e = refl
not_red Yellow e = refl
not_red Red e = absurd (e refl)

none_red : (now octets : ℕ) → IsRed None now octets → ⊥
none_red now octets (b, is, red) = none_some b is

-- the clock stands at no earlier moment than the meter's
max_is : (now last : ℕ) → last ≤ now → max now last ≡ now
max_is now last le = omega (arith, le)

without_last : (b : Buckets) (size : ℕ) → (without b size).last ≡ b.last
without_last b size =
    elim (nat_le size b.committed) as (λ (g : Bool). (if g then record b { committed = b.committed - size } else (if nat_le size b.excess then record b { excess = b.excess - size } else b)).last ≡ b.last) [
      | true ↦ refl
      | false ↦ elim (nat_le size b.excess) as (λ (y : Bool). (if y then record b { excess = b.excess - size } else b).last ≡ b.last) [ true ↦ refl | false ↦ refl ]
    ]

rise_from : (low high : ℕ) (offers : List Offer) → low ≤ high → Rise high offers → Rise low offers
rise_from low high [] le h = tt
rise_from low high (x ∷ xs) le h = (omega (arith, le, h.0), h.1)

module _ (r : Rules) (input : Bool) (n : ℕ) where
  -- there is no meter, and nothing is Red
  along_none : (ms : List Move) (s : State) (offers : List Offer) (reds : List Bool) → Stands s → IsNumberOf s.sessions.shard n → meter input n s ≡ None → Course r s ms → NoneRenews r n s ms → Offers input n r s ms offers reds
      → reds ≡ map (λ o. false) offers
  along_none [] s offers reds stands number none course stays (o, b) = b ∙ sym (ap (map (λ (x : Offer). false)) o)
  along_none (Settles ∷ ms) s offers reds stands number none course stays (inl (offer, red, asks, more, more_reds, rest, o, c)) = absurd asks
  along_none (Settles ∷ ms) s offers reds stands number none course stays (inr (unasked, more)) = along_none ms (settled s) offers reds (settled_stands s stands) number none course.1 stays more
  along_none (Handles limited d ∷ ms) s offers reds stands number none course stays (inr (unasked, more)) =
      along_none ms d.next offers reds (step_stands r s limited d course.0 stands) (subst (λ (k : ℕ). IsNumberOf k n) (sym (shard_kept r s limited d course.0)) number)
      (unasked_noted r s limited d input n stands number unasked stays.0 (step_noted r s limited d course.0) ∙ none) course.1 stays.1 more
  along_none (Handles limited d ∷ ms) s offers reds stands number none course stays (inl (offer, red, asks, more, more_reds, rest, o, b)) =
      let (octets, is, answered) = asked_answered r s limited d n stands input offer red course.0 asks in
      let next = step_stands r s limited d course.0 stands in
      let moved = subst (λ (k : ℕ). IsNumberOf k n) (sym (shard_kept r s limited d course.0)) number in
      elim answered [
        | inl (green, takes, passes) ↦
            let later = along_none ms d.next more more_reds next moved (takes ∙ ap (λ (m : Option Buckets). spent m d.entry.moment octets) none) course.1 stays.1 rest in
            b ∙ ap (λ (c : Bool). c ∷ more_reds) green ∙ ap (λ (cs : List Bool). false ∷ cs) later ∙ sym (ap (map (λ (x : Offer). false)) o)
        | inr (its, keeps, exceeds) ↦ absurd (none_red d.entry.moment octets (subst (λ (m : Option Buckets). IsRed m d.entry.moment octets) none exceeds))
      ]

  along_some : (ms : List Move) (s : State) (floor : ℕ) (b : Buckets) (offers : List Offer) (reds : List Bool) → Stands s → IsNumberOf s.sessions.shard n → meter input n s ≡ Some b → b.last ≤ floor → Course r s ms → Rises floor ms
      → NoneRenews r n s ms → Offers input n r s ms offers reds → (reds ≡ map is_red (colours_kept b offers)) × Rise floor offers
  along_some [] s floor b offers reds stands number has low course rises stays (o, c) = (c ∙ sym (ap (λ (os : List Offer). map is_red (colours_kept b os)) o), subst (Rise floor) (sym o) tt)
  along_some (Settles ∷ ms) s floor b offers reds stands number has low course rises stays (inl (offer, red, asks, more, more_reds, rest, o, c)) = absurd asks
  along_some (Settles ∷ ms) s floor b offers reds stands number has low course rises stays (inr (unasked, more)) =
      along_some ms (settled s) floor b offers reds (settled_stands s stands) number has low course.1 rises stays more
  along_some (Handles limited d ∷ ms) s floor b offers reds stands number has low course rises stays (inr (unasked, more)) =
      let later = along_some ms d.next d.entry.moment b offers reds (step_stands r s limited d course.0 stands) (subst (λ (k : ℕ). IsNumberOf k n) (sym (shard_kept r s limited d course.0)) number)
      (unasked_noted r s limited d input n stands number unasked stays.0 (step_noted r s limited d course.0) ∙ has) (omega (arith, low, rises.0)) course.1 rises.1 stays.1 more in
      (later.0, rise_from floor d.entry.moment offers rises.0 later.1)
  along_some (Handles limited d ∷ ms) s floor b offers reds stands number has low course rises stays (inl (offer, red, asks, more, more_reds, rest, o, c)) =
      let (octets, is, answered) = asked_answered r s limited d n stands input offer red course.0 asks in
      let now = d.entry.moment in
      let at : max now b.last ≡ now = max_is now b.last (omega (arith, low, rises.0)) in
      let next = step_stands r s limited d course.0 stands in
      let moved = subst (λ (k : ℕ). IsNumberOf k n) (sym (shard_kept r s limited d course.0)) number in
      let whole : offers ≡ (now, octets) ∷ more = o ∙ ap (λ (x : Offer). x ∷ more) is in
      elim answered [
        | inl (green, takes, passes) ↦
            let after_it = taken b (now, octets) in
            let colour : is_red (colour_of (filled b now) octets) ≡ false =
            not_red (colour_of (filled b now) octets) (λ e. passes (b, has, ap (λ (m : ℕ). colour_of (filled b m) octets) at ∙ e)) in
            let its : meter input n d.next ≡ Some after_it = takes ∙ ap (λ (m : Option Buckets). spent m now octets) has ∙ ap (λ (m : ℕ). Some (taken b (m, octets))) at in
            let later = along_some ms d.next now after_it more more_reds next moved its (omega (arith, without_last (filled b now) octets)) course.1 rises.1 stays.1 rest in
            let keeps : kept b (now, octets) ≡ after_it = ap (λ (g : Bool). if g then b else after_it) colour in (
              c ∙ ap (λ (g : Bool). g ∷ more_reds) (green ∙ sym colour) ∙ ap (λ (gs : List Bool). is_red (colour_of (filled b now) octets) ∷ gs) later.0
                  ∙ ap (λ (k : Buckets). is_red (colour_of (filled b now) octets) ∷ map is_red (colours_kept k more)) (sym keeps) ∙ sym (ap (λ (os : List Offer). map is_red (colours_kept b os)) whole),
              subst (Rise floor) (sym whole) (rises.0, later.1),
            )
        | inr (its_red, stands_still, exceeds) ↦
            let (b', same, reds_it) = exceeds in
            let one : b' ≡ b = same_some b' b (sym same ∙ has) in
            let at_it : colour_of (filled b now) octets ≡ Red =
            ap (λ (m : ℕ). colour_of (filled b m) octets) (sym at) ∙ ap (λ (k : Buckets). colour_of (filled k (max now k.last)) octets) (sym one) ∙ reds_it in
            let colour : is_red (colour_of (filled b now) octets) ≡ true = ap is_red at_it in
            let later = along_some ms d.next now b more more_reds next moved (stands_still ∙ has) (omega (arith, low, rises.0)) course.1 rises.1 stays.1 rest in
            let keeps : kept b (now, octets) ≡ b = ap (λ (g : Bool). if g then b else taken b (now, octets)) colour in (
              c ∙ ap (λ (g : Bool). g ∷ more_reds) (its_red ∙ sym colour) ∙ ap (λ (gs : List Bool). is_red (colour_of (filled b now) octets) ∷ gs) later.0
                  ∙ ap (λ (k : Buckets). is_red (colour_of (filled b now) octets) ∷ map is_red (colours_kept k more)) (sym keeps) ∙ sym (ap (λ (os : List Offer). map is_red (colours_kept b os)) whole),
              subst (Rise floor) (sym whole) (rises.0, later.1),
            )
      ]

-- a meter that starts full marks what it is asked about from then on
fresh_marks : (r : Rules) (s : State) (n place : ℕ) (input : Bool) (now : ℕ) (moves : List Move) (offers : List Offer) (reds : List Bool) → Stands s → IsNumberOf s.sessions.shard n
    → meter input n s ≡ option_map (λ (q : Rate). started q now) (rate_of input (slice_get r.profiles place))
    → Course r s moves → Rises now moves → NoneRenews r n s moves → Offers input n r s moves offers reds → reds ≡ marked (rate_of input (slice_get r.profiles place)) now offers
fresh_marks r s n place input now moves offers reds stands number fresh course rises stays offered = by_rate (rate_of input (slice_get r.profiles place)) fresh
  where
    by_rate : (o : Option Rate) → meter input n s ≡ option_map (λ (q : Rate). started q now) o → reds ≡ marked o now offers
    by_rate None none = along_none r input n moves s offers reds stands number none course stays offered
    by_rate (Some rate) has =
        let along = along_some r input n moves s now (started rate now) offers reds stands number has (omega arith) course rises stays offered in
        along.0 ∙ ap (map is_red) (colours_stay (started rate now) offers along.1)

pub renewed_marks : (r : Rules) (s : State) (limited : Bool) (d : Deed) (n place : ℕ) (input : Bool) (moves : List Move) (offers : List Offer) (reds : List Bool) → Stands s → Step r s limited d → Renews r s d n place
    → Course r d.next moves → Rises d.entry.moment moves → NoneRenews r n d.next moves → Offers input n r d.next moves offers reds
    → reds ≡ marked (rate_of input (slice_get r.profiles place)) d.entry.moment offers
renewed_marks r s limited d n place input moves offers reds stands h renews course rises stays offered =
    let (number, fresh) = renewed_fresh r s limited d input n place stands h renews in
    fresh_marks r d.next n place input d.entry.moment moves offers reds (step_stands r s limited d h stands) (subst (λ (k : ℕ). IsNumberOf k n) (sym (shard_kept r s limited d h)) number) fresh course rises stays offered

-- The opening --------------------------------------------------------------------------------------------------------------

opened_meter : (shard : ℕ) (profiles : List Profile) (circuits : List Static) (now n : ℕ) → IsNumberOf shard n
    → slice_index_or (opened_meters shard profiles circuits now) (n % 1024) no_meters ≡ circuit_meters profiles now (circuit_at circuits n)
unfolding opened_meters
opened_meter shard profiles circuits now n of_shard =
    get_or-map-range_with_len (λ (k : ℕ). circuit_meters profiles now (circuit_at circuits k)) (shard * 1024) 1024 (n % 1024) n no_meters (omega arith) (omega (arith, of_shard.0, of_shard.1))

pub opened_marks : (r : Rules) (number : ℕ) (circuits : List Static) (now : ℕ) (c : Static) (input : Bool) (moves : List Move) (offers : List Offer) (reds : List Bool) → number < 64
    → All (λ c. IsNumberOf number c.session.0) circuits → AllPairs (λ a b. a.session ≢ b.session) circuits → Contains circuits c
    → Course r (opened_slots number r.profiles circuits now) moves → Rises now moves → NoneRenews r c.session.0 (opened_slots number r.profiles circuits now) moves
    → Offers input c.session.0 r (opened_slots number r.profiles circuits now) moves offers reds → reds ≡ marked (rate_of input (slice_get r.profiles c.profile)) now offers
opened_marks r number circuits now c input moves offers reds low own apart there course rises stays offered =
    let s = opened_slots number r.profiles circuits now in
    let of_shard : IsNumberOf number c.session.0 = All-contains (λ (d : Static). IsNumberOf number d.session.0) circuits c own there in
    let fresh : meter input c.session.0 s ≡ option_map (λ (q : Rate). started q now) (rate_of input (slice_get r.profiles c.profile)) =
    ap (one_of input) (opened_meter number r.profiles circuits now c.session.0 of_shard)
    ∙ ap (λ (found : List Static). one_of input (circuit_meters r.profiles now found)) (its_circuit c circuits (apart_of circuits apart) there)
    ∙ rate_is input r.profiles c.profile now in
    fresh_marks r s c.session.0 c.profile input now moves offers reds (opened_stands number r.profiles circuits now low own apart) of_shard fresh course rises stays offered
