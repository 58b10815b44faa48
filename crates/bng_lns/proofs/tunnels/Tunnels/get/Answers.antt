use Rattle.std.proofs.Common.{◌≡◌, Option, Some, option_map, length, refl, sym, ap, ◌∙◌}
use Rattle.std.specs.Prelude.{position}
use Rattle.std.proofs.lemmas.Option.{slice_get_read}
use Rattle.bng_lns.specs.declared.place.TunnelPlace.{TunnelPlace}
use Rattle.bng_lns.specs.Places.{is_numbered}
use Rattle.bng_lns.specs.Tunnels.{TunnelsState, tunnel_at}
use Rattle.bng_lns.proofs.Finding.{found_within, none_found}
use Rattle.bng_lns.proofs.Keeping.{found_tunnel}
use Rattle.bng_lns.proofs.tunnels.Tunnels.get.Goals as goal

pub returns-in_err-at : goal.returns-in_err-at
returns-in_err-at c =
    let test = is_numbered c.args.number.0 in
    let none = none_found test c.self.inside.places.items (ap (position test) (sym c.as_slice.ensures.value) ∙ sym c.in_err-at.ensures) in
    rw (← c.self.view_is, c.from_residual.ensures) (sym (ap (λ (o : Option TunnelPlace). option_map (λ (p : TunnelPlace). p.tunnel) o) none))

pub returns : goal.returns
returns c =
    let test = is_numbered c.args.number.0 in
    let t : TunnelsState = record { shard = c.self.inside.shard; places = c.self.inside.places.items } in
    let at : position test t.places ≡ Some c.in_ok-at.at = ap (position test) (sym c.as_slice.ensures.value) ∙ sym c.in_ok-at.ensures in
    let there = slice_get_read t.places (length t.places) c.in_ok-at.at c.index.result.now refl (found_within test t.places c.in_ok-at.at at) c.index.ensures in
    sym (found_tunnel t c.args.number.0 c.in_ok-at.at c.index.result.now at there) ∙ ap (λ (s : TunnelsState). tunnel_at s c.args.number.0) c.self.view_is
