-- The fields of a trace.
use Rattle.std.specs.Prelude.{ℕ, ◌/◌, ◌%◌, ◌^◌, List, [], ◌∷◌, ◌++◌, Bool, true, false, codes}
use Rattle.std.specs.Fmt.{decimal}
use Rattle.std.specs.List.{flat_map}
use Rattle.hex.specs.Hex.{encode_lower}
use Rattle.bng_base.specs.declared.address.Ip4.{Ip4}
use Rattle.bng_base.specs.declared.address.Peer.{Peer}
use Rattle.bng_base.specs.declared.outside.Role.{Role}
use Rattle.bng_base.specs.declared.outside.Role.TheVariants.{Access, Core, Tunnel, Auth, Acct, Coa, Control}
use Rattle.bng_base.specs.declared.item.ItemKind.{ItemKind}
use Rattle.bng_base.specs.declared.item.ItemKind.TheVariants.{Access as OfAccess, Core as OfCore, Tunnel as OfTunnel, Verdict, Change, Tick, End}
use Rattle.bng_base.specs.declared.item.Item.{Item}
use Rattle.bng_base.specs.declared.item.Claim.{Claim}
use Rattle.bng_base.specs.declared.item.Claim.TheVariants.{NoClaim, Claimed, Held, Exhausted}
use Rattle.bng_base.specs.declared.fate.Fate.{Fate}
use Rattle.bng_base.specs.declared.fate.Fate.TheVariants.{Forwarded, Consumed, Dropped}
use Rattle.bng_base.specs.declared.fate.DropCause.{DropCause}
use Rattle.bng_base.specs.declared.fate.DropCause.TheVariants.{Malformed, NoSession, NotOpen, Expired, Spoofed, TooBig, Exceeded, LinkFailed, WantOfMemory}

abbrev pub flag_text : Bool → List ℕ
flag_text true = codes "1"
flag_text false = codes "0"

-- octets as lower-case hexadecimal digits, or a dash for none
abbrev pub octets_text : List ℕ → List ℕ
octets_text [] = codes "-"
octets_text (b ∷ bytes) = encode_lower (b ∷ bytes)

-- numbers parted by commas, or a dash for none
abbrev pub numbers_text : List ℕ → List ℕ
numbers_text [] = codes "-"
numbers_text (n ∷ more) = decimal n ++ flat_map (λ (m : ℕ). codes "," ++ decimal m) more

-- four decimal numbers, the most significant octet first, parted by dots (RFC 1123 section 2.1)
abbrev pub address_text : Ip4 → List ℕ
address_text a =
    decimal (a.0 / 2 ^ 24) ++ codes "." ++ decimal (a.0 / 2 ^ 16 % 256) ++ codes "."
    ++ decimal (a.0 / 2 ^ 8 % 256) ++ codes "." ++ decimal (a.0 % 256)

-- an address, a colon and a port
abbrev pub peer_text : Peer → List ℕ
peer_text p = address_text p.ip ++ codes ":" ++ decimal p.port

abbrev pub kind_text : ItemKind → List ℕ
kind_text (OfAccess n) = codes "access" ++ decimal n
kind_text OfCore = codes "core"
kind_text OfTunnel = codes "tunnel"
kind_text Verdict = codes "verdict"
kind_text Change = codes "change"
kind_text Tick = codes "tick"
kind_text End = codes "end"

abbrev pub role_text : Role → List ℕ
role_text (Access n) = codes "access" ++ decimal n
role_text Core = codes "core"
role_text Tunnel = codes "tunnel"
role_text Auth = codes "auth"
role_text Acct = codes "acct"
role_text Coa = codes "coa"
role_text Control = codes "control"

abbrev pub claim_text : Claim → List ℕ
claim_text NoClaim = codes "-"
claim_text (Claimed a) = codes "claimed:" ++ address_text a
claim_text (Held a) = codes "held:" ++ address_text a
claim_text (Exhausted n) = codes "exhausted:" ++ decimal n

abbrev pub cause_text : DropCause → List ℕ
cause_text Malformed = codes "malformed"
cause_text NoSession = codes "nosession"
cause_text NotOpen = codes "notopen"
cause_text Expired = codes "expired"
cause_text Spoofed = codes "spoofed"
cause_text TooBig = codes "toobig"
cause_text Exceeded = codes "exceeded"
cause_text LinkFailed = codes "linkfailed"
cause_text WantOfMemory = codes "wantofmemory"

abbrev pub fate_text : Fate → List ℕ
fate_text Forwarded = codes "forwarded"
fate_text Consumed = codes "consumed"
fate_text (Dropped cause) = cause_text cause

-- the fields that tell an item, before its octets: its kind, its sender, whether it was cut, its target, its question and its
-- random octets
abbrev pub item_fields : Item → List (List ℕ)
item_fields i =
    kind_text i.kind ∷ peer_text i.from ∷ flag_text i.cut ∷ decimal i.target ∷ decimal i.ask ∷ encode_lower i.random ∷ []
