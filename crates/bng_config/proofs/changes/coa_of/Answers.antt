use Rattle.std.proofs.Common.{refl, sym, ◌∙◌, arith}
use Rattle.toml.specs.View.{view}
use Rattle.bng_schema.specs.declared.keys.Table.TheVariants.{Coa}
use Rattle.bng_schema.specs.declared.keys.Key.TheVariants.{Whole}
use Rattle.bng_schema.specs.Keys.{path_of, value_at}
use Rattle.bng_schema.specs.declared.keys.Field.TheVariants.{CoaLocal, CoaPeers, CoaSecret}
use Rattle.bng_schema.specs.declared.keys.Form.TheVariants.{PeerText, AddressList, OctetText}
use Rattle.bng_config.proofs.Held.{sound_as, there_as, no_entry}
use Rattle.bng_config.proofs.changes.coa_of.Goals as goal

pub peer_of-local-requires : goal.peer_of-local-requires
peer_of-local-requires c =
    let document = view c.args.document.now in
    there_as document c.requires CoaLocal 0 PeerText (omega arith) refl refl

pub peers_of-peers-requires : goal.peers_of-peers-requires
peers_of-peers-requires c =
    let document = view c.args.document.now in
    there_as document c.requires CoaPeers 0 (AddressList 1 16) (omega arith) refl refl

pub coa_secret_of-secret-requires-clause-there : goal.coa_secret_of-secret-requires-clause-there
coa_secret_of-secret-requires-clause-there c =
    let document = view c.args.document.now in
    sound_as document c.requires CoaSecret 0 (OctetText 64) (omega arith) refl

pub returns-then-entries_of-eq0 : goal.returns-then-entries_of-eq0
returns-then-entries_of-eq0 c =
    let none = c.if-entries_of-eq0.true in
    no_entry (value_at (path_of (Whole Coa)) (view c.args.document.now)) (sym c.entries_of.ensures ∙ none)
