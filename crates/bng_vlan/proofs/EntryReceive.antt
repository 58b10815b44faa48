-- What a receive of an entry adds.
use Rattle.std.proofs.Common.{◌≡◌, ℕ, ◌+◌, ◌-◌, ◌<◌, ◌≤◌, ◌==◌, ◌⊎◌, inl, inr, Bool, true, false, not, is_some, cond, List, [], ◌∷◌, ◌++◌, Option, Some, None, unwrap_or, refl, sym, ap, subst, ◌∙◌, append-nil, length, map, filter, arith}
use Rattle.std.specs.List.{AllByRecursion, slice_get, find}
use Rattle.std.proofs.lemmas.Bool.{cases_eq, cases_lt, eqb-true, eq-eqb, ne_eqb}
use Rattle.std.proofs.lemmas.Bool.Decides.{nat_tests}
use Rattle.std.proofs.lemmas.List.{map-append}
use Rattle.std.proofs.lemmas.List.Elements.{filter-append}
use Rattle.bng_base.specs.declared.address.Peer.{Peer}
use Rattle.bng_base.specs.declared.outside.Datagram.{Datagram}
use Rattle.bng_base.specs.declared.outside.Heard.{Heard}
use Rattle.bng_base.specs.declared.outside.Heard.TheVariants.{Receive}
use Rattle.bng_base.specs.declared.outside.Received.{Received}
use Rattle.bng_base.specs.declared.outside.Received.TheVariants.{Got, Empty, Failed}
use Rattle.bng_base.specs.declared.outside.Role.TheVariants.{Access}
use Rattle.bng_base.specs.Roles.{is_port}
use Rattle.bng_vlan.specs.declared.ending.Ending.{Ending}
use Rattle.bng_vlan.specs.declared.ending.Ending.TheVariants.{Stopped, Dry, Broken}
use Rattle.bng_vlan.specs.declared.map.VlanEntry.{VlanEntry}
use Rattle.bng_vlan.specs.Stretches.{receiving, receive_failed}
use Rattle.bng_vlan.specs.Map.{Trunks, IsMap, role_of, is_trunk, entry_of, nobody}
use Rattle.bng_vlan.specs.Frames.{Came, frames_of, receive_of, datagram_of}
use Rattle.bng_vlan.specs.Waiting.{Waiting, Keeps, Gives, frames_at}
use Rattle.bng_vlan.specs.Hearing.{Hears, HearsPart, Fits, ReadsRole, ending_heard, ending_failed, trunk_heard, trunk_stretch}
use Rattle.bng_vlan.specs.Untagged.{Untagged, AreOf, took_of_trunk, gift, gifts, given_to}
use Rattle.bng_vlan.specs.Reading.{IsRead, Answers}

-- trunks are bound as trunks
trunk_yes : (m : Trunks) (t : ℕ) → 1 ≤ t → t ≤ length m.peers → is_trunk m (role_of t) ≡ true
trunk_yes m t from to = grind (arith, nat_tests)

module _ (m : Trunks) (t : ℕ) (yes : is_trunk m (role_of t) ≡ true) where
  its_role : (c : Came) → c.trunk ≡ t → is_trunk m (role_of c.trunk) ≡ true
  its_role c same = ap (λ n. is_trunk m (role_of n)) same ∙ yes

  all_heard : (came : List Came) → AllByRecursion (λ c. c.trunk ≡ t) came → filter (took_of_trunk m) (map receive_of came) ≡ map receive_of came
  all_heard [] all = refl
  all_heard (c ∷ came) all =
      ap (λ b. cond b (receive_of c ∷ filter (took_of_trunk m) (map receive_of came)) (filter (took_of_trunk m) (map receive_of came))) (its_role c all.0)
      ∙ ap (λ x. receive_of c ∷ x) (all_heard came all.1)

  all_taken : (came : List Came) → AllByRecursion (λ c. c.trunk ≡ t) came → filter (λ (d : Datagram). is_trunk m d.role) (map datagram_of came) ≡ map datagram_of came
  all_taken [] all = refl
  all_taken (c ∷ came) all =
      let rest = filter (λ (d : Datagram). is_trunk m d.role) (map datagram_of came) in
      ap (λ b. cond b (datagram_of c ∷ rest) rest) (its_role c all.0) ∙ ap (λ x. datagram_of c ∷ x) (all_taken came all.1)

  no_others : (came : List Came) → AllByRecursion (λ c. c.trunk ≡ t) came → filter (λ (d : Datagram). not (is_trunk m d.role)) (map datagram_of came) ≡ []
  no_others [] all = refl
  no_others (c ∷ came) all =
      let rest = filter (λ (d : Datagram). not (is_trunk m d.role)) (map datagram_of came) in
      ap (λ b. cond (not b) (datagram_of c ∷ rest) rest) (its_role c all.0) ∙ no_others came all.1

  no_heard : (trunk : ℕ) (ending : Ending) → filter (took_of_trunk m) (ending_heard trunk ending) ≡ []
  no_heard trunk Stopped = refl
  no_heard trunk Dry = refl
  no_heard trunk Broken = refl

  are_all : (came : List Came) (ending : Ending) → AllByRecursion (λ c. c.trunk ≡ t) came → AreOf m came (trunk_stretch t came ending)
  are_all came ending all = record {
    heard =
        filter-append (took_of_trunk m) (map receive_of came) (ending_heard t ending)
        ∙ ap (λ x. x ++ filter (took_of_trunk m) (ending_heard t ending)) (all_heard came all)
        ∙ ap (λ x. map receive_of came ++ x) (no_heard t ending)
        ∙ append-nil (map receive_of came);
    taken = all_taken came all;
  }

module _ (m : Trunks) (sound : IsMap m) (place : ℕ) (e : VlanEntry) (stands : slice_get m.entries place ≡ Some e) (port : entry_of m (Access e.access) ≡ Some e) (v : Waiting) where
  trunk_is : is_trunk m (role_of e.trunk) ≡ true
  trunk_is = let is = sound.each place e stands in trunk_yes m e.trunk is.trunk_from is.trunk_to

  -- the parts that all answers share
  untag : (came : List Came) (ending : Ending) (answer : Received) (octets : List ℕ) (w : Waiting) (u : Waiting) → IsRead m place e v came ending u
      → ((i : ℕ) (d : VlanEntry) → slice_get m.entries i ≡ Some d → gifts m d (frames_at i u.frames) ≡ given_to d (receiving (Access e.access) answer octets).taken ++ gifts m d (frames_at i w.frames))
      → w.strays ≡ u.strays → [] ≡ filter (λ (d : Datagram). not (is_some (entry_of m d.role))) (receiving (Access e.access) answer octets).taken
      → Fits m e answer ending → ending_failed ending ≡ receive_failed answer
      → Untagged m v (trunk_stretch e.trunk came ending) (receiving (Access e.access) answer octets) w
  untag came ending answer octets w u read given strays others fits failed = record {
    came = came;
    are = are_all m e.trunk trunk_is came ending read.of_trunk;
    each = λ i d at.
        sym (map-append (gift m d) (frames_at i v.frames) (frames_of m d came))
        ∙ ap (gifts m d) (read.keeps.each i d at)
        ∙ given i d at;
    strays = strays ∙ read.keeps.strays;
    others = no_others m e.trunk trunk_is came read.of_trunk ∙ others;
    sent = refl;
    heard =
        let reads : ReadsRole m (Access e.access) answer (trunk_heard e.trunk came ending) (Some e) =
        record { came = came; ending = ending; are = refl; of_trunk = read.of_trunk; most = read.up_to.most; fits = fits } in
        let is : HearsPart m (Receive (Access e.access) answer) (trunk_heard e.trunk came ending) =
        subst (ReadsRole m (Access e.access) answer (trunk_heard e.trunk came ending)) (sym port) reads in
        record { parts = record { above = Receive (Access e.access) answer; below = trunk_heard e.trunk came ending } ∷ []; aboves = refl; belows = append-nil (trunk_heard e.trunk came ending); each = (is, tt) };
    failed = failed;
  }

  -- nothing is given
  pub untag_dry : (came : List Came) (octets : List ℕ) (w : Waiting) → IsRead m place e v came Dry w → Untagged m v (trunk_stretch e.trunk came Dry) (receiving (Access e.access) Empty octets) w
  untag_dry came octets w read = untag came Dry Empty octets w w read (λ i d at. refl) refl refl tt refl

  pub untag_stopped : (came : List Came) (octets : List ℕ) (w : Waiting) → IsRead m place e v came Stopped w → Untagged m v (trunk_stretch e.trunk came Stopped) (receiving (Access e.access) Empty octets) w
  untag_stopped came octets w read = untag came Stopped Empty octets w w read (λ i d at. refl) refl refl tt refl

  pub untag_broken : (came : List Came) (octets : List ℕ) (w : Waiting) → IsRead m place e v came Broken w → Untagged m v (trunk_stretch e.trunk came Broken) (receiving (Access e.access) Failed octets) w
  untag_broken came octets w read = untag came Broken Failed octets w w read (λ i d at. refl) refl refl refl refl

  -- the oldest frame is given
  given_here : (d : VlanEntry) (from : Peer) (octets : List ℕ) → e ≡ d → slice_get m.peers (e.trunk - 1) ≡ Some from → gift m d octets ∷ [] ≡ given_to d (receiving (Access e.access) (Got from false) octets).taken
  given_here d from octets same peer =
      let g : Datagram = record { role = Access e.access; peer = from; octets = octets } in
      let one : gift m e octets ≡ g = ap (λ (o : Option Peer). let x : Datagram = record { role = Access e.access; peer = unwrap_or o nobody; octets = octets } in x) peer in
      let here : given_to e (g ∷ []) ≡ g ∷ [] = ap (λ b. cond b (g ∷ []) []) (eq-eqb e.access e.access refl) in
      subst (λ (k : VlanEntry). gift m k octets ∷ [] ≡ given_to k (g ∷ [])) same (ap (λ (x : Datagram). x ∷ []) one ∙ sym here)

  given_there : (i : ℕ) (d : VlanEntry) (from : Peer) (octets : List ℕ) → slice_get m.entries i ≡ Some d → (i ≡ place → ⊥) → [] ≡ given_to d (receiving (Access e.access) (Got from false) octets).taken
  given_there i d from octets at other =
      let g : Datagram = record { role = Access e.access; peer = from; octets = octets } in
      sym (ap (λ b. cond b (g ∷ []) []) (ne_eqb e.access d.access (λ same. other (sound.ports i place d e at stands (sym same)))))

  pub untag_given : (came : List Came) (from : Peer) (octets : List ℕ) (u w : Waiting) → IsRead m place e v came Stopped u → Gives place u octets w → slice_get m.peers (e.trunk - 1) ≡ Some from
      → Untagged m v (trunk_stretch e.trunk came Stopped) (receiving (Access e.access) (Got from false) octets) w
  untag_given came from octets u w read gives peer =
      let g : Datagram = record { role = Access e.access; peer = from; octets = octets } in
      untag came Stopped (Got from false) octets w u read
      (λ i d at. elim (cases_eq i place) [
        | inl here ↦
            let same : e ≡ d = (let both : Some e ≡ Some d = sym stands ∙ ap (slice_get m.entries) (sym here) ∙ at in cc) in
            let fronts : frames_at i u.frames ≡ octets ∷ frames_at i w.frames = subst (λ n. frames_at n u.frames ≡ octets ∷ frames_at n w.frames) (sym here) gives.here in
            ap (gifts m d) fronts ∙ ap (λ (x : List Datagram). x ++ gifts m d (frames_at i w.frames)) (given_here d from octets same peer)
        | inr other ↦ ap (gifts m d) (sym (gives.others i other)) ∙ ap (λ (x : List Datagram). x ++ gifts m d (frames_at i w.frames)) (given_there i d from octets at other)
      ])
      gives.strays
      (sym (ap (λ o. cond (not (is_some o)) (g ∷ []) []) port))
      (refl, refl, peer)
      refl

-- how each of them answers
module _ (m : Trunks) (place : ℕ) (e : VlanEntry) (v : Waiting) (came : List Came) where
  none_waits : (ending : Ending) (w : Waiting) → (ending ≡ Stopped → ⊥) → IsRead m place e v came ending w → length (frames_at place w.frames) ≡ 0
  none_waits ending w not_stopped read = elim (cases_lt 0 (length (frames_at place w.frames))) [
    | inl some ↦ absurd (not_stopped (read.ended some))
    | inr none ↦ omega arith
  ]

  pub answers_dry : (w : Waiting) → IsRead m place e v came Dry w → Answers m place e Empty v (trunk_stretch e.trunk came Dry) w
  answers_dry w read = record {
    came = came;
    ending = Dry;
    are = refl;
    up_to = read.up_to;
    failed = (λ f. absurd cc, λ f. absurd cc);
    empty = λ _. (none_waits Dry w (λ f. cc) read, inl refl);
  }

  pub answers_broken : (w : Waiting) → IsRead m place e v came Broken w → Answers m place e Failed v (trunk_stretch e.trunk came Broken) w
  answers_broken w read = record {
    came = came;
    ending = Broken;
    are = refl;
    up_to = read.up_to;
    failed = (λ _. refl, λ _. refl);
    empty = λ f. absurd cc;
  }

  pub answers_stopped : (w : Waiting) → length (frames_at place w.frames) ≡ 0 → IsRead m place e v came Stopped w → Answers m place e Empty v (trunk_stretch e.trunk came Stopped) w
  answers_stopped w none read = record {
    came = came;
    ending = Stopped;
    are = refl;
    up_to = read.up_to;
    failed = (λ f. absurd cc, λ f. absurd cc);
    empty = λ _. (none, elim (read.drained none) [ inl broken ↦ absurd cc | inr drained ↦ drained ]);
  }

  pub answers_given : (from : Peer) (cut : Bool) (u w : Waiting) → IsRead m place e v came Stopped u → Answers m place e (Got from cut) v (trunk_stretch e.trunk came Stopped) w
  answers_given from cut u w read = record {
    came = came;
    ending = Stopped;
    are = refl;
    up_to = read.up_to;
    failed = (λ f. absurd cc, λ f. absurd cc);
    empty = λ f. absurd cc;
  }
