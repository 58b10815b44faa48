-- What the grammar of a frame asks of its tags, by RFC 2516 section 5.
use Rattle.std.specs.Prelude.{ℕ, ◌+◌, List, length, cond, ◌==◌, count_by, find, Option, None, Some}
use Rattle.std.specs.Option.{option_map}
use Rattle.bng_base.specs.PppoeGrammar.{PppoeTag, service_name, host_uniq}
use Rattle.bng_pppoe_wire.specs.declared.scan.Scan.{Scan}

-- how many there are, how many are Service-Names, and how long the first Host-Uniq is
abbrev pub scan_of : List PppoeTag → Scan
scan_of tags = record {
  tags = length tags;
  services = count_by (λ t. t.kind == service_name) tags;
  host = option_map (λ t. length t.value) (find (λ t. t.kind == host_uniq) tags);
}

-- the first, if there is one, and else the length of this tag, if it is a Host-Uniq
abbrev pub first_host : Option ℕ → PppoeTag → Option ℕ
first_host (Some n) tag = Some n
first_host None tag = cond (tag.kind == host_uniq) (Some (length tag.value)) None

-- one more tag
abbrev pub scan_with : Scan → PppoeTag → Scan
scan_with scan tag = record {
  tags = scan.tags + 1;
  services = scan.services + cond (tag.kind == service_name) 1 0;
  host = first_host scan.host tag;
}
