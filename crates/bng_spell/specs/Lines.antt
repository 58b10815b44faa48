-- The lines of a trace.
use Rattle.std.specs.Prelude.{ℕ, ◌+◌, List, [], ◌∷◌, ◌++◌, codes}
use Rattle.std.specs.Fmt.{decimal}
use Rattle.std.specs.List.{flat_map}
use Rattle.bng_base.specs.declared.item.Entry.{Entry}
use Rattle.bng_base.specs.declared.item.Item.{Item}
use Rattle.bng_base.specs.declared.item.Loose.{Loose}
use Rattle.bng_base.specs.declared.item.OutRecord.{OutRecord}
use Rattle.bng_base.specs.declared.round.RoundRecord.{RoundRecord}
use Rattle.bng_spell.specs.Fields.{item_fields, claim_text, fate_text, role_text, peer_text, flag_text, octets_text, numbers_text}

-- fields, a space behind each, and a last one with the line's end
abbrev pub line_text : List (List ℕ) → List ℕ → List ℕ
line_text fields last = flat_map (λ (f : List ℕ). f ++ codes " ") fields ++ (last ++ codes "\n")

abbrev pub head_line : RoundRecord → List ℕ
head_line r = line_text (codes "round" ∷ decimal r.number ∷ decimal r.moment ∷ decimal r.wall ∷ []) (numbers_text r.allowances)

abbrev pub entry_line : ℕ → Entry → List ℕ
entry_line shard e =
    line_text
    (codes "entry" ∷ decimal shard ∷ decimal e.seat ∷ decimal e.place ∷ (item_fields e.item ++ octets_text e.item.frame.payload ∷ []))
    (claim_text e.claim)

abbrev pub loose_line : Loose → List ℕ
loose_line l =
    line_text (codes "loose" ∷ decimal l.seat ∷ decimal l.place ∷ (item_fields l.item ++ octets_text l.item.frame.payload ∷ []))
    (fate_text l.fate)

abbrev pub refused_line : Item → List ℕ
refused_line i = line_text (codes "refused" ∷ item_fields i) (octets_text i.frame.payload)

-- what an out carries of whose packet is no part of the text
abbrev pub out_line : OutRecord → List ℕ
out_line o =
    line_text
    (codes "out" ∷ decimal o.shard ∷ decimal o.seat ∷ decimal o.place ∷ role_text o.role ∷ peer_text o.to ∷ flag_text o.sent ∷ [])
    (octets_text o.frame)

-- the journals of the shards from this one on, each in its order
abbrev pub entry_lines : ℕ → List (List Entry) → List ℕ
entry_lines shard [] = []
entry_lines shard (journal ∷ journals) = flat_map (entry_line shard) journal ++ entry_lines (shard + 1) journals
