use Rattle.std.proofs.Common.{◌≡◌, ◌∙◌, Bool, true, false, not, ℕ, Option, None, Some, ap, refl}
use Rattle.std.specs.Prelude.{if◌then◌else◌, is_some, option_map}
use Rattle.std.proofs.lemmas.Bool.{and_parts, eq-eqb, false≢true}
use Rattle.std.proofs.lemmas.List.Elements.{All-contains}
use Rattle.bng_coa.specs.Naming.{is_named}
use Rattle.bng_steps.specs.declared.session.Lease.{Lease}
use Rattle.bng_steps.specs.declared.session.Service.{Service}
use Rattle.bng_steps.specs.declared.session.Service.TheVariants.{Provisioned, Linked}
use Rattle.bng_steps.specs.declared.session.Session.{Session}
use Rattle.bng_steps.specs.Changes.{by_session, found_with, identity_of, is_named_by, lease_for, lease_if, with_its_session}
use Rattle.bng_steps.specs.Lasting.{KeepsTerm}
use Rattle.bng_steps.specs.State.{leaves, leaves_in}
use Rattle.bng_steps.specs.Tenures.{Tenure, is_over}
use Rattle.bng_steps.proofs.Housing.{Housed}
use Rattle.bng_steps.proofs.Values.{found_is}
use Rattle.bng_steps.proofs.laws.requests_find_live_terms.Goals as goal

no_cause : (o : Option ℕ) → not (is_some o) ≡ true → o ≡ None
no_cause None e = refl
no_cause (Some cause) e = absurd (false≢true e)

stays_in : (v : Service) → KeepsTerm v → leaves_in v ≡ false
stays_in (Provisioned over) keeps = keeps
stays_in (Linked m) keeps = keeps.1

-- the session of a live term has its lease
its_lease : (t : Tenure) (x : Session) (l : Lease) → leaves x ≡ false → x.lease ≡ Some l → l.serial ≡ t.term.serial → by_session t (Some x) ≡ Some (found_with t x l)
its_lease t x l stays leased same =
    let here : lease_for t.term.serial x ≡ Some l =
    ap (λ (b : Bool). if b then None else lease_if t.term.serial x.lease) stays ∙ ap (lease_if t.term.serial) leased ∙ ap (λ (b : Bool). if b then Some l else None) (eq-eqb l.serial t.term.serial same) in
    ap (option_map (found_with t x)) here

pub returns : goal.returns
returns c r s fs t sound housed found =
    let (among, passes) = found_is (is_named_by r fs) s.terms t found in
    let live = no_cause t.cause (and_parts (not (is_over t)) (is_named (identity_of r t) fs) passes).0 in
    let (x, l, at, leased, same) = All-contains (Housed s) s.terms t housed.housed among live in
    let stays = stays_in x.service (housed.lasting t.term.session.0 x l at leased) in
    ap is_some (ap (with_its_session s) found ∙ ap (by_session t) at ∙ its_lease t x l stays leased same)
