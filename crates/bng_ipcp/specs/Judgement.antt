-- The table of the options that IPCP negotiates, by RFC 1332 section 3.3 and RFC 1877 section 1, and how a Configure-Request is
-- judged by it.
use Rattle.std.specs.Prelude.{ℕ, true, false, List, [], ◌∷◌, ◌++◌, slice_index_or, Option, Some, None}
use Rattle.bng_base.specs.declared.address.Ip4.{Ip4}
use Rattle.bng_base.specs.PppGrammar.{PppOption}
use Rattle.bng_ppp_wire.specs.declared.option_table.Width.TheVariants.{Four}
use Rattle.bng_ppp_wire.specs.declared.option_table.Good.TheVariants.{Only}
use Rattle.bng_ppp_wire.specs.declared.option_table.OptionRow.{OptionRow}
use Rattle.bng_ppp_wire.specs.declared.judgement.Class.{Class}
use Rattle.bng_ppp_wire.specs.declared.judgement.Judged.{Judged}
use Rattle.bng_ppp_wire.specs.Judgement as table
use Rattle.bng_ipcp.specs.Options.{ip_address, primary_dns, secondary_dns}
use Rattle.bng_ipcp.specs.declared.judgement.IpcpRules.{IpcpRules}

-- IP-Address: the lease alone. A peer that asks for none is told it.
abbrev pub address_row : Ip4 → OptionRow
address_row lease = record { kind = ip_address; width = Four; good = Only lease.0; suggestion = lease.0; must_be_named = true }

-- the address of a DNS server, where one is configured: this one alone
abbrev pub server_rows : ℕ → Option Ip4 → List OptionRow
server_rows kind None = []
server_rows kind (Some server) =
    record { kind = kind; width = Four; good = Only server.0; suggestion = server.0; must_be_named = false } ∷ []

abbrev pub rows_of : IpcpRules → List OptionRow
rows_of r =
    address_row r.lease ∷ [] ++ server_rows primary_dns (slice_index_or r.dns 0 None)
    ++ server_rows secondary_dns (slice_index_or r.dns 1 None)

abbrev pub class_of : IpcpRules → PppOption → Class
class_of r o = table.class_of (rows_of r) r.no_more_naks o

abbrev pub rejected : IpcpRules → List PppOption → List PppOption
rejected r request = table.rejected (rows_of r) r.no_more_naks request

abbrev pub added : IpcpRules → List PppOption → List PppOption
added r request = table.added (rows_of r) r.no_more_naks request

abbrev pub naked : IpcpRules → List PppOption → List PppOption
naked r request = table.naked (rows_of r) r.no_more_naks request

abbrev pub IsJudgement : IpcpRules → List PppOption → Judged → Type 0
IsJudgement r request judged = table.IsJudgement (rows_of r) r.no_more_naks request judged
