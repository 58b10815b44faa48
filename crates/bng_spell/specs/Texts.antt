-- The text of a trace.
use Rattle.std.specs.Prelude.{ℕ, List, [], ◌∷◌, ◌++◌, None, codes, map}
use Rattle.std.specs.Fmt.{decimal}
use Rattle.std.specs.List.{flat_map}
use Rattle.hex.specs.Hex.{encode_lower}
use Rattle.bng_base.specs.declared.outside.Opening.{Opening}
use Rattle.bng_base.specs.declared.item.OutRecord.{OutRecord}
use Rattle.bng_base.specs.declared.round.RoundRecord.{RoundRecord}
use Rattle.bng_spell.specs.Fields.{octets_text}
use Rattle.bng_spell.specs.Lines.{line_text, head_line, entry_lines, loose_line, refused_line, out_line}

-- what a run begins with
pub record OpeningView : Type 0 where
  pub now : ℕ
  pub wall : ℕ
  pub seed : List ℕ
  pub configuration : List ℕ

abbrev pub opening_view : Opening → OpeningView
opening_view o = record { now = o.now; wall = o.wall; seed = o.seed; configuration = o.configuration.now }

abbrev pub opening_text : OpeningView → List ℕ
opening_text o =
    codes "bng-trace 1\n"
    ++ line_text (codes "opened" ∷ decimal o.now ∷ decimal o.wall ∷ encode_lower o.seed ∷ []) (octets_text o.configuration)

abbrev pub round_text : RoundRecord → List ℕ
round_text r =
    head_line r
    ++ (entry_lines 0 r.journals
    ++ (flat_map loose_line r.loose ++ (flat_map refused_line r.refused ++ (flat_map out_line r.outs ++ codes "end\n"))))

abbrev pub trace_text : OpeningView → List RoundRecord → List ℕ
trace_text o rounds = opening_text o ++ flat_map round_text rounds

-- the same out, with nothing said of whose packet it carries
abbrev pub uncharged : OutRecord → OutRecord
uncharged o = record o { charge = None }

-- the round as it is read back
abbrev pub as_read : RoundRecord → RoundRecord
as_read r = record r { outs = map uncharged r.outs }
