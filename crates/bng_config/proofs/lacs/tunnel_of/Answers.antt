use Rattle.std.proofs.Common.{refl, sym, ◌∙◌, arith}
use Rattle.toml.specs.View.{view}
use Rattle.bng_schema.specs.declared.keys.Table.TheVariants.{Tunnel}
use Rattle.bng_schema.specs.declared.keys.Key.TheVariants.{Whole}
use Rattle.bng_schema.specs.Keys.{path_of, value_at}
use Rattle.bng_schema.specs.declared.keys.Field.TheVariants.{TunnelLocal}
use Rattle.bng_schema.specs.declared.keys.Form.TheVariants.{PeerText}
use Rattle.bng_config.proofs.Held.{there_as, no_entry}
use Rattle.bng_config.proofs.lacs.tunnel_of.Goals as goal

pub peer_of-local-requires : goal.peer_of-local-requires
peer_of-local-requires c =
    let document = view c.args.document.now in
    there_as document c.requires TunnelLocal 0 PeerText (omega arith) refl refl

pub returns-then-entries_of-eq0 : goal.returns-then-entries_of-eq0
returns-then-entries_of-eq0 c =
    let none = c.if-entries_of-eq0.true in
    no_entry (value_at (path_of (Whole Tunnel)) (view c.args.document.now)) (sym c.entries_of.ensures ∙ none)
