-- Each call keeps what holds of requests and records, by what it promises.
use Rattle.std.proofs.Common.{◌≡◌, ◌≢◌, ⊎_elim, ℕ, List, [], ◌∷◌, set, Option, Some, None, refl, sym, ap, subst, ◌∙◌, length}
use Rattle.std.proofs.lemmas.Bool.{cases_eq}
use Rattle.std.proofs.lemmas.List.{get_or-set_other}
use Rattle.bng_base.specs.Chain.{Chain}
use Rattle.bng_radius_wire.specs.Grammar.{length_in}
use Rattle.bng_rad_client.specs.declared.pending.Pending.{Pending}
use Rattle.bng_rad_client.specs.State.{State as Client}
use Rattle.bng_rad_client.specs.Table.{request_of}
use Rattle.bng_acct.specs.declared.sheet.Sheet.{Sheet}
use Rattle.bng_acct.specs.Queue.{sheet_at}
use Rattle.bng_acct.specs.Spool.{State as Spool, only_stop}
use Rattle.bng_base.specs.declared.address.TheConstants.{NOBODY}
use Rattle.bng_billing.specs.declared.rules.BillingRules.{BillingRules}
use Rattle.bng_billing.specs.State.{BillingState, IsNewBilling, places_of, owner_of}
use Rattle.bng_billing.specs.Invariant.{IsBilling}
use Rattle.bng_billing.specs.Sending.{IsSentBy}
use Rattle.bng_billing.specs.Calls.{BillingCall, Formed, Given, Again, Told, Heard, Stopped, Does}
use Rattle.bng_billing.specs.Laws.{IsStillOut, KeepsRecords}
use Rattle.bng_billing.proofs.Numbers.{one_number, some_is, none_some, stop_stays}
use Rattle.bng_billing.proofs.Keeping.{new_billing, forms_keeps, sends_keeps, acks_keeps, again_keeps, again_is, stops_keeps, stop_is}

abbrev Holds : BillingState → Type 0
Holds b = IsBilling b.client b.spool

pub does_keep : (call : BillingCall) (old new : BillingState) → Does old call new → Holds old → Holds new
does_keep (Formed status facts moment n) old new by b =
    subst (λ (c : Client). IsBilling c new.spool) (sym (ap (λ (x : BillingState). x.client) by.others)) (forms_keeps old.client old.spool new.spool status facts moment n by.formed b)
does_keep (Given now n id octets) old new by b =
    sends_keeps old.client new.client old.spool new.spool n now id by.request by.frame by.handed by.asked (subst (λ (o : List ℕ). length_in o ≡ length o) by.payload by.unpadded)
    (ap (λ (x : BillingState). x.client.secret) by.others) (ap (λ (x : BillingState). x.client.auth) by.others) b
does_keep (Again now id octets) old new by b =
    subst (λ (s : Spool). IsBilling new.client s) (sym (ap (λ (x : BillingState). x.spool) by.others))
    (again_keeps old.client new.client old.spool id now by.frame by.resent.sent (ap (λ (x : BillingState). x.client.secret) by.others) (ap (λ (x : BillingState). x.client.auth) by.others) b)
does_keep (Told id sent) old new by b = subst Holds (sym by) b
does_keep (Heard from octets None) old new by b = subst Holds (sym by.1) b
does_keep (Heard from octets (Some n)) old new by b =
    acks_keeps old.client new.client old.spool new.spool n.0 by.counts.packet.id by.counts.request by.counts.reply.pending by.counts.record_is (ap (λ (x : BillingState). x.client.acct.places) by.others)
    (ap (λ (x : BillingState). x.client.secret) by.others) (ap (λ (x : BillingState). x.client.auth) by.others) by.acknowledged b
does_keep Stopped old new by b = stops_keeps old new by b

pub new_holds : (rules : BillingRules) (b : BillingState) → IsNewBilling rules b → Holds b
new_holds rules b new = new_billing b.client b.spool NOBODY rules.server rules.secret.items 0 rules.acct new.client new.spool

-- what each call keeps, calls keep
pub calls_keep : (calls : List BillingCall) (old new : BillingState) → Chain Does old calls new → Holds old → Holds new
calls_keep [] old new run b = subst Holds (sym run) b
calls_keep (call ∷ calls) old new (mid, does, run) b = calls_keep calls mid new run (does_keep call old mid does b)

-- What stays out ------------------------------------------------------------------------------------------------------------

same_out : (new : BillingState) (places : List (Option Pending)) (id : ℕ) (r : Pending) → places_of new ≡ places → request_of places id ≡ Some r → IsStillOut new id r
same_out new places id r same is = record { request = r; pending = ap (λ (ps : List (Option Pending)). request_of ps id) same ∙ is; octets = refl; owner = refl }

other_out : (new : BillingState) (places : List (Option Pending)) (at id : ℕ) (x : Option Pending) (r : Pending) → places_of new ≡ set places at x → id ≢ at → request_of places id ≡ Some r → IsStillOut new id r
other_out new places at id x r same other is = record {
  request = r;
  pending = ap (λ (ps : List (Option Pending)). request_of ps id) same ∙ get_or-set_other places at id x None other ∙ is;
  octets = refl;
  owner = refl;
}

pub stays_out : (old new : BillingState) (call : BillingCall) → Holds old → Does old call new → KeepsRecords old call new
stays_out old new (Formed status facts moment m) b by id n r x is owner there spared = same_out new (places_of old) id r (ap places_of by.others) is
stays_out old new (Given now m at octets) b by id n r x is owner there spared =
    other_out new (places_of old) at id (Some by.asked.made) r by.asked.places (λ (e : id ≡ at). none_some r (sym by.asked.next.free ∙ ap (request_of (places_of old)) (sym e) ∙ is)) is
stays_out old new (Again now at octets) b by id n r x is owner there spared =
    let out = again_is old.client new.client old.spool at now by.frame by.resent.sent (ap (λ (y : BillingState). y.client.secret) by.others) (ap (λ (y : BillingState). y.client.auth) by.others) b id r is in
    record { request = out.0; pending = out.1; octets = out.3; owner = out.2 }
stays_out old new (Told at sent) b by id n r x is owner there spared = same_out new (places_of old) id r (ap places_of by) is
stays_out old new (Heard from octets None) b by id n r x is owner there spared = same_out new (places_of old) id r (ap places_of by.1) is
stays_out old new (Heard from octets (Some m)) b by id n r x is owner there spared =
    other_out new (places_of old) by.counts.packet.id id None r (ap places_of by.others) (λ (e : id ≡ by.counts.packet.id). spared (same_record e)) is
  where
    same_record : id ≡ by.counts.packet.id → m.0 ≡ n
    same_record e =
        let same : by.counts.request ≡ r = some_is by.counts.request r (sym by.counts.reply.pending ∙ ap (request_of (places_of old)) (sym e) ∙ is) in
        one_number m.0 n (sym by.counts.record_is ∙ ap (λ (y : Pending). y.owner) same ∙ owner)
stays_out old new Stopped b by id n r x is owner there spared =
    let kept : sheet_at new.spool.sheets n ≡ Some x = by.sheets n ∙ ap only_stop there ∙ stop_stays (Some x) spared in
    record { request = r; pending = stop_is old new by b id n r x is owner kept; octets = refl; owner = refl }
