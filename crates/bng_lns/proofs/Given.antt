-- Which number is given, and where none is.
use Rattle.std.proofs.Common.{◌≡◌, ℕ, ◌+◌, not, nat_le, true, cond, Option, None, Some, List, length, refl, sym, ap, ◌∙◌}
use Rattle.std.specs.Prelude.{find}
use Rattle.std.proofs.lemmas.Bool.{and_parts, leb-true, not-true}
use Rattle.std.proofs.lemmas.List.{length-map}
use Rattle.std.proofs.lemmas.List.Sums.{fails_before_first, passes_at_first}
use Rattle.std.proofs.lemmas.Option.{slice_get_within, get_or_from_slice_get}
use Rattle.bng_base.specs.declared.settings.Lac.{Lac}
use Rattle.bng_l2tp_wire.specs.Messages.{ControlMessage}
use Rattle.bng_l2tp_wire.specs.declared.message.TheConstants.{SCCRQ}
use Rattle.bng_l2tp_wire.specs.Judge.{is_type}
use Rattle.bng_l2tp_tunnel.specs.Steps.{stands, message_step}
use Rattle.bng_l2tp_wire.specs.Values.{message_type, assigned_tunnel}
use Rattle.bng_lns.specs.declared.place.TunnelPlace.{TunnelPlace}
use Rattle.bng_lns.specs.declared.outcome.Came.{Came}
use Rattle.bng_lns.specs.Places.{is_free, is_again, is_numbered, place_of}
use Rattle.bng_lns.specs.Tunnels.{TunnelsState, free_place, vacant, lac_of, secret_of, IsGiven, Outcome, heard_by, requested_by, hear}
use Rattle.bng_lns.proofs.Hearing.{given_number, heard_request}

pub is_given : (now : ℕ) (t : TunnelsState) → (vacant now t ≡ 0 → ⊥) → IsGiven now t (vacant now t)
is_given now t some =
    let given = given_number t.shard (free_place now t) (vacant now t) refl some in
    record {
      place = free_place now t;
      few = given.0;
      number_is = given.1;
      rested = λ p e.
          let passes = passes_at_first (is_free now) t.places p (slice_get_within t.places (free_place now t) p e) in
          let free : is_free now p ≡ true = ap (is_free now) (sym (get_or_from_slice_get t.places (free_place now t) p p e)) ∙ passes in
          let both = and_parts (not (stands p.tunnel.phase)) (nat_le (p.since + 31000) now) free in
          (not-true (stands p.tunnel.phase) both.0, leb-true (p.since + 31000) now both.1);
      lower = λ k p below e.
          ap (is_free now) (sym (get_or_from_slice_get t.places k p p e)) ∙ fails_before_first (is_free now) t.places k p below;
    }

-- a message that is heard makes no place
heard_length : (t : TunnelsState) (came : Came) (m : ControlMessage) (o : Option TunnelPlace) → length (heard_by t came m o).after.places ≡ length t.places
heard_length t came m None = refl
heard_length t came m (Some p) =
    length-map t.places (λ (q : TunnelPlace). cond (is_numbered p.tunnel.number q) (place_of came.moment (message_step p.tunnel m came.random came.moment).after) q)

module _ (name : List ℕ) (lacs : List Lac) (t : TunnelsState) (came : Came) (m : ControlMessage) (p : TunnelPlace) (zero : m.tunnel ≡ 0) (asks : is_type (message_type m.avps) SCCRQ ≡ true)
    (again : find (is_again came.from (assigned_tunnel (secret_of (lac_of lacs came.from.ip)) m.avps)) t.places ≡ Some p) where
  pub repeated : hear name lacs t came m ≡ heard_by t came m (Some p)
  repeated = heard_request name lacs t came m zero asks ∙ ap (requested_by name (lac_of lacs came.from.ip) t came m) again

  pub repeated_length : length (hear name lacs t came m).after.places ≡ length t.places
  repeated_length = ap (λ (o : Outcome). length o.after.places) repeated ∙ heard_length t came m (Some p)
