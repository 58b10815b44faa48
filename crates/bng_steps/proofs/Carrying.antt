-- What was done with a packet of a term, of what is known of its parts.
use Rattle.std.proofs.Common.{◌≡◌, ℕ, true, false, List, [], ◌∷◌, ◌++◌, Option, Some, None, length, inl, inr, refl, sym, ap, subst, ◌∙◌, arith}
use Rattle.std.specs.Prelude.{◌≢◌, ◌==◌, option_map}
use Rattle.std.specs.Option.{option_map_or}
use Rattle.std.proofs.lemmas.Bool.Decides.{nat_tests}
use Rattle.std.proofs.lemmas.List.{append-nil}
use Rattle.bng_base.specs.declared.address.Ip4.{Ip4}
use Rattle.bng_base.specs.declared.fate.Fate.{Fate}
use Rattle.bng_base.specs.declared.fate.Fate.TheVariants.{Forwarded}
use Rattle.bng_base.specs.declared.ipv4.Ipv4.{Ipv4}
use Rattle.bng_base.specs.declared.item.Entry.{Entry}
use Rattle.bng_base.specs.declared.item.Item.{Item}
use Rattle.bng_base.specs.declared.item.OutRecord.{OutRecord}
use Rattle.bng_base.specs.declared.address.Peer.{Peer}
use Rattle.bng_base.specs.declared.outside.Role.{Role}
use Rattle.bng_base.specs.declared.outside.Role.TheVariants.{Core}
use Rattle.bng_engine.specs.Lists.{AnyOf}
use Rattle.bng_forward.specs.declared.view.TermView.{TermView}
use Rattle.bng_forward.specs.Fates.{UpFate, DownFate}
use Rattle.bng_forward.specs.Meters.{with_input, with_output}
use Rattle.bng_forward.specs.Packets.{IsPassedOn, MayPassUp}
use Rattle.bng_sessions.specs.Listed.{values}
use Rattle.bng_steps.specs.declared.rules.Rules.{Rules}
use Rattle.bng_base.specs.declared.item.At.{At}
use Rattle.bng_steps.specs.declared.meters.Meters.{Meters}
use Rattle.bng_steps.specs.declared.session.Lease.{Lease}
use Rattle.bng_steps.specs.declared.session.Session.{Session}
use Rattle.bng_steps.specs.State.{State, IsTermOf, holder_of, is_kept, passes_in, leases, mru_in}
use Rattle.bng_steps.specs.Deed.{Deed, at_of, out, only}
use Rattle.bng_steps.specs.Doing.{DoesWith}
use Rattle.bng_steps.specs.Frames.{HearsData, HearsPacket, charge_of, forwarded, found_among, found_up, found_down, SentDown}
use Rattle.bng_steps.specs.Metered.{meters_at, meters_found, meters_in, spent_input, spent_output, view_in}
use Rattle.bng_steps.specs.Passing.{with_passed}
use Rattle.bng_steps.specs.Protocol.{entry_of}
use Rattle.bng_steps.proofs.Values.{same_some, none_some, found_is}

-- an entry's place is that of its item, where the shard is the state's
pub its_place : (s : State) (a : At) (moment : ℕ) (item : Item) → a.shard ≡ s.sessions.shard → a ≡ at_of s (entry_of a.seat a.place moment item)
its_place s a moment item e = let make : ℕ → At = λ n. record { shard = n; seat = a.seat; place = a.place } in ap make e

same_address : (a b : Ip4) → a.0 ≡ b.0 → a ≡ b
same_address a b e = let make : ℕ → Ip4 = λ n. record { 0 = n } in ap make e

equal_numbers : (a b : ℕ) → (a == b) ≡ true → a ≡ b
equal_numbers a b e = grind (arith, nat_tests)

leased_address : (o : Option Lease) (a : Ip4) (l : Lease) → option_map_or (λ (k : Lease). k.address.0 == a.0) o false ≡ true → o ≡ Some l → a ≡ l.address
leased_address None a l passes is = absurd (none_some l is)
leased_address (Some k) a l passes is = sym (same_address k.address a (equal_numbers k.address.0 a.0 passes)) ∙ ap (λ (m : Lease). m.address) (same_some k l is)

-- the holder of an address leases it
held_address : (s : State) (a : Ip4) (x : Session) (l : Lease) → holder_of s a ≡ Some x → x.lease ≡ Some l → a ≡ l.address
held_address s a x l at leased = leased_address x.lease a l (found_is (leases a) (values s.sessions) x at).1 leased

-- what forwarding looks at of the term of a session, by its lease
abbrev its_view : State → Session → Lease → TermView
its_view s x l = record {
  lease = l.address;
  opened = passes_in x.service;
  mru = mru_in x.service;
  input = (meters_at s.meters x.number).input;
  output = (meters_at s.meters x.number).output;
}

viewed : (s : State) (x : Session) (l : Lease) → x.lease ≡ Some l → view_in s.meters x ≡ Some (its_view s x l)
viewed s x l leased = ap (option_map (λ (k : Lease). its_view s x k)) leased

module _ (r : Rules) (s : State) (a : At) (item : Item) (outs : List OutRecord) (here : a.shard ≡ s.sessions.shard) where
  -- nothing was sent, and the state is as before
  nothing_at : (Says : Entry → Deed → Type 0) (most : ℕ) (fate : Fate) (moment : ℕ) → (let e : Entry = entry_of a.seat a.place moment item in Says e (only s e fate)) → DoesWith Says most s s outs outs a moment item fate
  nothing_at Says most fate moment says =
      let e : Entry = entry_of a.seat a.place moment item in
      record {
        deed = only s e fate;
        entry = refl;
        fate_is = refl;
        next = refl;
        says = says;
        outs_are = sym (append-nil outs);
        few = omega arith;
      }

  pub nothing_done : (Says : Entry → Deed → Type 0) (most : ℕ) (fate : Fate) → ((moment : ℕ) → let e : Entry = entry_of a.seat a.place moment item in Says e (only s e fate))
      → (moment : ℕ) → DoesWith Says most s s outs outs a moment item fate
  nothing_done Says most fate says moment = nothing_at Says most fate moment (says moment)

  -- a packet of a circuit that does not go on
  pub drops_up : (moment : ℕ) (session : Option Session) (info : List ℕ) (found : Option (Option TermView)) (fate : Fate) → found ≡ found_up s session → UpFate found moment info fate → fate ≢ Forwarded
      → DoesWith (λ e d. HearsData r s e session info d) 1 s s outs outs a moment item fate
  drops_up moment session info found fate is up other =
      nothing_at (λ e d. HearsData r s e session info d) 1 fate moment (fate, subst (λ (f : Option (Option TermView)). UpFate f moment info fate) is up, inr (other, refl))

  -- one that goes to the core, where the view that was found has these meters then
  pub goes_up : (moment : ℕ) (session : Option Session) (info packet : List ℕ) (found after : Option (Option TermView)) (x : Session) (l : Lease) (octets : ℕ) (outs' : List OutRecord)
      → found ≡ found_up s session → session ≡ Some x → x.lease ≡ Some l → AnyOf (IsTermOf x l) s.terms
      → UpFate found moment info Forwarded → (v : Ipv4) × MayPassUp found moment v × IsPassedOn v info packet × (after ≡ with_input found moment v.total) → length packet ≡ octets
      → outs' ≡ outs ++ out a Core r.core_peer packet (Some (charge_of x l true octets)) ∷ []
      → DoesWith (λ e d. HearsData r s e session info d) 1 s (with_passed s x.number moment (meters_found after)) outs outs' a moment item Forwarded
  goes_up moment session info packet found after x l octets outs' is at leased term up (v, may, passed, spends) count pushed =
      let e : Entry = entry_of a.seat a.place moment item in
      let sent : At → ℕ → OutRecord = λ b n. out b Core r.core_peer packet (Some (charge_of x l true n)) in
      let total : octets ≡ v.total = sym count ∙ passed.whole in
      let its : TermView = its_view s x l in
      let found_is : found ≡ Some (Some its) = is ∙ ap (λ (o : Option Session). option_map (view_in s.meters) o) at ∙ ap (λ (o : Option TermView). Some o) (viewed s x l leased) in
      let same : may.view ≡ its = same_some may.view its (same_some (Some may.view) (Some its) (sym may.term ∙ found_is)) in
      let meters : meters_found after ≡ spent_input (meters_at s.meters x.number) moment v.total = ap meters_found (spends ∙ ap (λ (f : Option (Option TermView)). with_input f moment v.total) found_is) in
      record {
        deed = forwarded s e x.number (spent_input (meters_at s.meters x.number) moment v.total) (sent (at_of s e) v.total);
        entry = refl;
        fate_is = refl;
        next = ap (λ (ms : Meters). with_passed s x.number moment ms) (sym meters);
        says = (
          Forwarded,
          subst (λ (f : Option (Option TermView)). UpFate f moment info Forwarded) is up,
          inl (refl, record { x = x; there = at; lease = l; live = leased; term = term; header = v; packet = packet; source = may.source ∙ ap (λ (t : TermView). t.lease) same; passed = passed; done = refl }),
        );
        outs_are = pushed ∙ ap (λ (n : ℕ). outs ++ sent a n ∷ []) total ∙ ap (λ (b : At). outs ++ sent b v.total ∷ []) (its_place s a moment item here);
        few = omega arith;
      }

  -- a packet of the core that does not go on
  pub drops_down : (moment : ℕ) (v : Ipv4) (fate : Fate) → DownFate (found_down s) moment item.frame.payload fate → fate ≢ Forwarded
      → DoesWith (λ e d. HearsPacket r s e v d) 1 s s outs outs a moment item fate
  drops_down moment v fate down other = nothing_at (λ e d. HearsPacket r s e v d) 1 fate moment (fate, down, inr (other, refl))

  -- one that goes to a subscriber, where the view of the holder has these meters then
  pub goes_down : (moment : ℕ) (v : Ipv4) (packet octets : List ℕ) (role : Role) (to : Peer) (x : Session) (l : Lease) (holder after : Option TermView) (outs' : List OutRecord)
      → holder ≡ found_down s v.dst → after ≡ with_output holder moment v.total → holder_of s v.dst ≡ Some x → x.lease ≡ Some l → AnyOf (IsTermOf x l) s.terms → SentDown x.way r x.number.0 packet role to octets
      → DownFate (found_down s) moment item.frame.payload Forwarded → IsPassedOn v item.frame.payload packet
      → outs' ≡ outs ++ out a role to octets (Some (charge_of x l false v.total)) ∷ []
      → DoesWith (λ e d. HearsPacket r s e v d) 1 s (with_passed s x.number moment (meters_in after)) outs outs' a moment item Forwarded
  goes_down moment v packet octets role to x l holder after outs' is spends at leased term sends down passed pushed =
      let e : Entry = entry_of a.seat a.place moment item in
      let holder_is : holder ≡ Some (its_view s x l) = is ∙ ap (λ (o : Option Session). found_among s.meters o (is_kept s v.dst) v.dst) at ∙ viewed s x l leased in
      let meters : meters_in after ≡ spent_output (meters_at s.meters x.number) moment v.total = ap meters_in (spends ∙ ap (λ (h : Option TermView). with_output h moment v.total) holder_is) in
      let sent : At → OutRecord = λ b. out b role to octets (Some (charge_of x l false v.total)) in
      record {
        deed = forwarded s e x.number (spent_output (meters_at s.meters x.number) moment v.total) (sent (at_of s e));
        entry = refl;
        fate_is = refl;
        next = ap (λ (ms : Meters). with_passed s x.number moment ms) (sym meters);
        says = (
          Forwarded,
          down,
          inl (
            refl,
            record {
              x = x;
              found = at;
              lease = l;
              live = leased;
              term = term;
              address = held_address s v.dst x l at leased;
              packet = packet;
              passed = passed;
              role = role;
              to = to;
              octets = octets;
              sent = sends;
              done = refl;
            },
          ),
        );
        outs_are = pushed ∙ ap (λ (b : At). outs ++ sent b ∷ []) (its_place s a moment item here);
        few = omega arith;
      }
