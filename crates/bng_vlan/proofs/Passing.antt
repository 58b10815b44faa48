-- Calls that pass through to the plant below.
use Rattle.std.proofs.Common.{◌≡◌, ℕ, ◌+◌, Bool, true, false, cond, List, [], ◌∷◌, ◌++◌, Option, Some, None, not, is_some, refl, sym, ap, subst, ◌∙◌, append-nil, arith, map, filter}
use Rattle.std.specs.List.{find, slice_get}
use Rattle.bng_base.specs.declared.address.Peer.{Peer}
use Rattle.bng_base.specs.declared.outside.Datagram.{Datagram}
use Rattle.bng_base.specs.declared.outside.Heard.{Heard}
use Rattle.bng_base.specs.declared.outside.Heard.TheVariants.{Receive, Wait}
use Rattle.bng_base.specs.declared.outside.Received.{Received}
use Rattle.bng_base.specs.declared.outside.Received.TheVariants.{Got, Empty, Failed}
use Rattle.bng_base.specs.declared.outside.Role.{Role}
use Rattle.bng_base.specs.declared.outside.Role.TheVariants.{Access, Core, Tunnel, Auth, Acct, Coa, Control}
use Rattle.bng_base.specs.Roles.{is_port}
use Rattle.bng_base.specs.Stretch.{PlantStretch, plant_none}
use Rattle.bng_plant.specs.declared.answers.Sending.{Sending}
use Rattle.bng_plant.specs.declared.answers.Sending.TheVariants.{Sent, Failed as SendingFailed}
use Rattle.bng_vlan.specs.declared.map.VlanEntry.{VlanEntry}
use Rattle.bng_vlan.specs.Stretches.{receiving, sending, waiting}
use Rattle.bng_vlan.specs.Tags.{tagged}
use Rattle.bng_vlan.specs.Map.{Trunks, is_trunk, entry_of, role_of, tags_in}
use Rattle.bng_vlan.specs.Waiting.{Waiting, frames_at, counted}
use Rattle.bng_vlan.specs.Hearing.{Hears, HearsPart, Part, ReadsRole, ReadsOther}
use Rattle.bng_vlan.specs.Untagged.{Untagged, AreOf, took_of_trunk, gifts, given_to, tagged_by, sent_as}
use Rattle.bng_vlan.specs.UntaggedLaws.{hears_none}
use Rattle.bng_vlan.proofs.Lists.{find_none, find_nothing}

-- nothing came of a trunk
module _ (m : Trunks) (v : Waiting) where
  counted_none : (n : ℕ) → n ≡ counted n 0
  counted_none n = omega arith

  pub quiet : (below above : PlantStretch) → AreOf m [] below → ((i : ℕ) (e : VlanEntry) → slice_get m.entries i ≡ Some e → given_to e above.taken ≡ [])
      → filter (λ (d : Datagram). not (is_trunk m d.role)) below.taken ≡ filter (λ (d : Datagram). not (is_some (entry_of m d.role))) above.taken
      → below.sent ≡ map (tagged_by m) above.sent → Hears m above.heard below.heard → below.failed ≡ above.failed → Untagged m v below above v
  quiet below above are none others sent heard failed = record {
    came = [];
    are = are;
    each = λ i e stands. append-nil (gifts m e (frames_at i v.frames)) ∙ ap (λ z. z ++ gifts m e (frames_at i v.frames)) (sym (none i e stands));
    strays = counted_none v.strays;
    others = others;
    sent = sent;
    heard = heard;
    failed = failed;
  }

  one_part : (above : Heard) (below : List Heard) → HearsPart m above below → Hears m (above ∷ []) below
  one_part above below is = record { parts = record { above = above; below = below } ∷ []; aboves = refl; belows = append-nil below; each = (is, tt) }

  -- a wait
  pub passes_wait : (ms : ℕ) → Untagged m v (waiting ms) (waiting ms) v
  passes_wait ms = quiet (waiting ms) (waiting ms) (record { heard = refl; taken = refl }) (λ i e stands. refl) refl refl (one_part (Wait ms) (Wait ms ∷ []) refl) refl

  -- of a role that is no entry's and no trunk's
  no_port : (role : Role) → entry_of m role ≡ None → (i : ℕ) (e : VlanEntry) → slice_get m.entries i ≡ Some e → is_port e.access role ≡ false
  no_port role none i e stands = find_none (λ (e : VlanEntry). is_port e.access role) m.entries i e none stands

  hears_other : (role : Role) (answer : Received) (below : List Heard) → entry_of m role ≡ None → ReadsOther role answer below (is_trunk m role) → Hears m (Receive role answer ∷ []) below
  hears_other role answer below none is = one_part (Receive role answer) below (subst (ReadsRole m role answer below) (sym none) is)

  hears_same : (role : Role) (answer : Received) → entry_of m role ≡ None → is_trunk m role ≡ false → Hears m (Receive role answer ∷ []) (Receive role answer ∷ [])
  hears_same role answer none other =
      let at : ReadsOther role answer (Receive role answer ∷ []) (is_trunk m role) = subst (ReadsOther role answer (Receive role answer ∷ [])) (sym other) refl in
      hears_other role answer (Receive role answer ∷ []) none at

  pub passes_receive : (role : Role) (answer : Received) (octets : List ℕ) → entry_of m role ≡ None → is_trunk m role ≡ false → Untagged m v (receiving role answer octets) (receiving role answer octets) v
  passes_receive role (Got from cut) octets none other =
      let s = receiving role (Got from cut) octets in
      quiet s s
      (record { heard = ap (λ b. cond b (Receive role (Got from cut) ∷ []) []) other; taken = ap (λ b. cond b s.taken []) other })
      (λ i e stands. ap (λ b. cond b s.taken []) (no_port role none i e stands))
      (ap (λ b. cond (not b) s.taken []) other ∙ ap (λ o. cond (not (is_some o)) s.taken []) (sym none))
      refl (hears_same role (Got from cut) none other) refl
  passes_receive role Empty octets none other =
      let s = receiving role Empty octets in quiet s s (record { heard = refl; taken = refl }) (λ i e stands. refl) refl refl (hears_same role Empty none other) refl
  passes_receive role Failed octets none other =
      let s = receiving role Failed octets in quiet s s (record { heard = refl; taken = refl }) (λ i e stands. refl) refl refl (hears_same role Failed none other) refl

  -- a trunk itself is never given anything
  pub passes_trunk : (role : Role) (octets : List ℕ) → entry_of m role ≡ None → is_trunk m role ≡ true → Untagged m v plant_none (receiving role Empty octets) v
  passes_trunk role octets none trunk =
      let at : ReadsOther role Empty [] (is_trunk m role) = subst (ReadsOther role Empty []) (sym trunk) (refl, refl) in
      quiet plant_none (receiving role Empty octets) (record { heard = refl; taken = refl }) (λ i e stands. refl) refl refl (hears_other role Empty [] none at) refl

  -- a send
  sends_as : (role : Role) (to : Peer) (octets : List ℕ) (role' : Role) (octets' : List ℕ) (answer : Sending)
      → tagged_by m (record { role = role; peer = to; octets = octets }) ≡ record { role = role'; peer = to; octets = octets' }
      → Untagged m v (sending role' to octets' answer) (sending role to octets answer) v
  sends_as role to octets role' octets' Sent is =
      quiet (sending role' to octets' Sent) (sending role to octets Sent) (record { heard = refl; taken = refl }) (λ i e stands. refl) refl (ap (λ (d : Datagram). d ∷ []) (sym is)) (hears_none m) refl
  sends_as role to octets role' octets' SendingFailed is =
      quiet (sending role' to octets' SendingFailed) (sending role to octets SendingFailed) (record { heard = refl; taken = refl }) (λ i e stands. refl) refl refl (hears_none m) refl

  pub passes_send : (role : Role) (to : Peer) (octets : List ℕ) (answer : Sending) → entry_of m role ≡ None → Untagged m v (sending role to octets answer) (sending role to octets answer) v
  passes_send role to octets answer none = sends_as role to octets role octets answer (ap (sent_as (record { role = role; peer = to; octets = octets })) none)

  pub tags_send : (role : Role) (to : Peer) (octets : List ℕ) (answer : Sending) (e : VlanEntry) → entry_of m role ≡ Some e
      → Untagged m v (sending (role_of e.trunk) to (tagged (tags_in e) octets) answer) (sending role to octets answer) v
  tags_send role to octets answer e found = sends_as role to octets (role_of e.trunk) (tagged (tags_in e) octets) answer (ap (sent_as (record { role = role; peer = to; octets = octets })) found)

-- what is no access port is no entry and no trunk
pub no_access : (m : Trunks) (role : Role) → ((n : ℕ) → role ≡ Access n → ⊥) → (entry_of m role ≡ None) × (is_trunk m role ≡ false)
no_access m (Access n) not = absurd (not n refl)
no_access m Core not = (find_nothing (λ (e : VlanEntry). is_port e.access Core) m.entries (λ e. refl), refl)
no_access m Tunnel not = (find_nothing (λ (e : VlanEntry). is_port e.access Tunnel) m.entries (λ e. refl), refl)
no_access m Auth not = (find_nothing (λ (e : VlanEntry). is_port e.access Auth) m.entries (λ e. refl), refl)
no_access m Acct not = (find_nothing (λ (e : VlanEntry). is_port e.access Acct) m.entries (λ e. refl), refl)
no_access m Coa not = (find_nothing (λ (e : VlanEntry). is_port e.access Coa) m.entries (λ e. refl), refl)
no_access m Control not = (find_nothing (λ (e : VlanEntry). is_port e.access Control) m.entries (λ e. refl), refl)
