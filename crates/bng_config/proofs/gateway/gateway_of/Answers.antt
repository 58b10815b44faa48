use Rattle.std.proofs.Common.{refl}
use Rattle.toml.specs.View.{view}
use Rattle.bng_schema.specs.declared.keys.Field.TheVariants.{GatewayName, GatewayAddress, GatewayNasIp, GatewayShards, GatewayWorkers, GatewayTerms, GatewayServices, GatewayDns, GatewayAuth, GatewayEcho}
use Rattle.bng_schema.specs.declared.keys.Form.TheVariants.{PrintableText, AddressText, Number, ServiceList, AddressList, KindList}
use Rattle.bng_config.proofs.Held.{sound_as, there_as, gateway_there}
use Rattle.bng_config.proofs.gateway.gateway_of.Goals as goal

pub name_of-name-requires : goal.name_of-name-requires
name_of-name-requires c =
    let document = view c.args.document.now in
    there_as document c.requires GatewayName 0 PrintableText (gateway_there document c.requires) refl refl

pub address_of-address-requires : goal.address_of-address-requires
address_of-address-requires c =
    let document = view c.args.document.now in
    there_as document c.requires GatewayAddress 0 AddressText (gateway_there document c.requires) refl refl

pub address_of-nas_ip-requires : goal.address_of-nas_ip-requires
address_of-nas_ip-requires c =
    let document = view c.args.document.now in
    there_as document c.requires GatewayNasIp 0 AddressText (gateway_there document c.requires) refl refl

pub number_or-shards-requires : goal.number_or-shards-requires
number_or-shards-requires c =
    let document = view c.args.document.now in
    sound_as document c.requires GatewayShards 0 (Number 1 64) (gateway_there document c.requires) refl

pub number_or-workers-requires : goal.number_or-workers-requires
number_or-workers-requires c =
    let document = view c.args.document.now in
    sound_as document c.requires GatewayWorkers 0 (Number 1 16) (gateway_there document c.requires) refl

pub number_or-terms-requires : goal.number_or-terms-requires
number_or-terms-requires c =
    let document = view c.args.document.now in
    sound_as document c.requires GatewayTerms 0 (Number 64 262144) (gateway_there document c.requires) refl

pub services_or_none-services-requires : goal.services_or_none-services-requires
services_or_none-services-requires c =
    let document = view c.args.document.now in
    sound_as document c.requires GatewayServices 0 ServiceList (gateway_there document c.requires) refl

pub servers_or_none-dns-requires : goal.servers_or_none-dns-requires
servers_or_none-dns-requires c =
    let document = view c.args.document.now in
    sound_as document c.requires GatewayDns 0 (AddressList 0 2) (gateway_there document c.requires) refl

pub kinds_or_both-auth-requires : goal.kinds_or_both-auth-requires
kinds_or_both-auth-requires c =
    let document = view c.args.document.now in
    sound_as document c.requires GatewayAuth 0 KindList (gateway_there document c.requires) refl

pub number_or-echo-requires : goal.number_or-echo-requires
number_or-echo-requires c =
    let document = view c.args.document.now in
    sound_as document c.requires GatewayEcho 0 (Number 0 3600) (gateway_there document c.requires) refl
