-- What it says of a key that the document breaks no rule.
use Rattle.std.proofs.Common.{◌≡◌, ℕ, ◌<◌, List, [], ◌∷◌, map, flat_map, refl, subst, inl, inr, ◌⊎◌}
use Rattle.toml.specs.Data.{Data}
use Rattle.bng_schema.specs.declared.keys.Table.{Table}
use Rattle.bng_schema.specs.declared.keys.Table.TheVariants.{Gateway, Core, Control, Access, Radius, Tunnel, Lac, Coa, Pool, Profile, Static}
use Rattle.bng_schema.specs.declared.keys.Field.{Field}
use Rattle.bng_schema.specs.declared.keys.Field.TheVariants.{GatewayName, GatewayAddress, GatewayNasIp, GatewayShards, GatewayWorkers, GatewayTerms, GatewayServices, GatewayDns, GatewayAuth, GatewayEcho, CoreLocal, CorePeer, ControlLocal, AccessLocal, AccessPeer, AccessMac, RadiusAuthLocal, RadiusAuthServer, RadiusAcctLocal, RadiusAcctServer, RadiusSecret, RadiusTries, TunnelLocal, LacIp, LacSecret, CoaLocal, CoaPeers, CoaSecret, PoolName, PoolFirst, PoolLast, ProfileName, ProfileUpCir, ProfileUpCbs, ProfileUpEbs, ProfileDownCir, ProfileDownCbs, ProfileDownEbs, StaticPort, StaticMac, StaticSession, StaticAddress, StaticUser, StaticProfile}
use Rattle.bng_schema.specs.declared.keys.Key.{Key}
use Rattle.bng_schema.specs.declared.keys.Key.TheVariants.{Whole, Of}
use Rattle.bng_schema.specs.declared.rule.Rule.{Rule}
use Rattle.bng_schema.specs.declared.rule.Rule.TheVariants.{C4, C5, C6, C7, C8, C9, C10, C11, C12, C13, C14}
use Rattle.bng_schema.specs.First.{NoneOf}
use Rattle.bng_schema.specs.Keys.{field_row, tables, fields, entries, entry_keys, table_keys, keys}
use Rattle.bng_schema.specs.Rules.{Breaks, rules_in_order}
use Rattle.bng_schema.specs.Checks.{IsBroken, IsSound, rule_checks, checks}
use Rattle.bng_schema.proofs.Firsts.{none_front, none_back, none_entry}

-- it is an element of the list
abbrev pub IsAmong : {X : Type 0} → X → List X → Type 0
IsAmong x [] = ⊥
IsAmong x (y ∷ ys) = (y ≡ x) ⊎ IsAmong x ys

module _ {X Y : Type 0} (P : Y → Type 0) (f : X → List Y) where
  pub none_among : (xs : List X) (x : X) → IsAmong x xs → NoneOf P (flat_map f xs) → NoneOf P (f x)
  none_among [] x among none = absurd among
  none_among (y ∷ ys) x (inl same) none = subst (λ z. NoneOf P (f z)) same (none_front P (f y) (flat_map f ys) none)
  none_among (y ∷ ys) x (inr more) none = none_among ys x more (none_back P (f y) (flat_map f ys) none)

module _ {X Y : Type 0} (P : Y → Type 0) (g : X → Y) where
  pub not_among : (xs : List X) (x : X) → IsAmong x xs → NoneOf P (map g xs) → ¬ P (g x)
  not_among [] x among none = absurd among
  not_among (y ∷ ys) x (inl same) none = subst (λ z. ¬ P (g z)) same none.0
  not_among (y ∷ ys) x (inr more) none = not_among ys x more none.1

-- each rule is one of the rules, each table one of the tables, and each key one of those of its table
rule_among : (r : Rule) → IsAmong r rules_in_order
rule_among C4 = inl refl
rule_among C5 = inr (inl refl)
rule_among C6 = inr (inr (inl refl))
rule_among C7 = inr (inr (inr (inl refl)))
rule_among C8 = inr (inr (inr (inr (inl refl))))
rule_among C9 = inr (inr (inr (inr (inr (inl refl)))))
rule_among C10 = inr (inr (inr (inr (inr (inr (inl refl))))))
rule_among C11 = inr (inr (inr (inr (inr (inr (inr (inl refl)))))))
rule_among C12 = inr (inr (inr (inr (inr (inr (inr (inr (inl refl))))))))
rule_among C13 = inr (inr (inr (inr (inr (inr (inr (inr (inr (inl refl)))))))))
rule_among C14 = inr (inr (inr (inr (inr (inr (inr (inr (inr (inr (inl refl))))))))))

table_among : (t : Table) → IsAmong t tables
table_among Gateway = inl refl
table_among Core = inr (inl refl)
table_among Control = inr (inr (inl refl))
table_among Access = inr (inr (inr (inl refl)))
table_among Radius = inr (inr (inr (inr (inl refl))))
table_among Tunnel = inr (inr (inr (inr (inr (inl refl)))))
table_among Lac = inr (inr (inr (inr (inr (inr (inl refl))))))
table_among Coa = inr (inr (inr (inr (inr (inr (inr (inl refl)))))))
table_among Pool = inr (inr (inr (inr (inr (inr (inr (inr (inl refl))))))))
table_among Profile = inr (inr (inr (inr (inr (inr (inr (inr (inr (inl refl)))))))))
table_among Static = inr (inr (inr (inr (inr (inr (inr (inr (inr (inr (inl refl))))))))))

field_among : (f : Field) → IsAmong f (fields (field_row f).table)
field_among GatewayName = inl refl
field_among GatewayAddress = inr (inl refl)
field_among GatewayNasIp = inr (inr (inl refl))
field_among GatewayShards = inr (inr (inr (inl refl)))
field_among GatewayWorkers = inr (inr (inr (inr (inl refl))))
field_among GatewayTerms = inr (inr (inr (inr (inr (inl refl)))))
field_among GatewayServices = inr (inr (inr (inr (inr (inr (inl refl))))))
field_among GatewayDns = inr (inr (inr (inr (inr (inr (inr (inl refl)))))))
field_among GatewayAuth = inr (inr (inr (inr (inr (inr (inr (inr (inl refl))))))))
field_among GatewayEcho = inr (inr (inr (inr (inr (inr (inr (inr (inr (inl refl)))))))))
field_among CoreLocal = inl refl
field_among CorePeer = inr (inl refl)
field_among ControlLocal = inl refl
field_among AccessLocal = inl refl
field_among AccessPeer = inr (inl refl)
field_among AccessMac = inr (inr (inl refl))
field_among RadiusAuthLocal = inl refl
field_among RadiusAuthServer = inr (inl refl)
field_among RadiusAcctLocal = inr (inr (inl refl))
field_among RadiusAcctServer = inr (inr (inr (inl refl)))
field_among RadiusSecret = inr (inr (inr (inr (inl refl))))
field_among RadiusTries = inr (inr (inr (inr (inr (inl refl)))))
field_among TunnelLocal = inl refl
field_among LacIp = inl refl
field_among LacSecret = inr (inl refl)
field_among CoaLocal = inl refl
field_among CoaPeers = inr (inl refl)
field_among CoaSecret = inr (inr (inl refl))
field_among PoolName = inl refl
field_among PoolFirst = inr (inl refl)
field_among PoolLast = inr (inr (inl refl))
field_among ProfileName = inl refl
field_among ProfileUpCir = inr (inl refl)
field_among ProfileUpCbs = inr (inr (inl refl))
field_among ProfileUpEbs = inr (inr (inr (inl refl)))
field_among ProfileDownCir = inr (inr (inr (inr (inl refl))))
field_among ProfileDownCbs = inr (inr (inr (inr (inr (inl refl)))))
field_among ProfileDownEbs = inr (inr (inr (inr (inr (inr (inl refl))))))
field_among StaticPort = inl refl
field_among StaticMac = inr (inl refl)
field_among StaticSession = inr (inr (inl refl))
field_among StaticAddress = inr (inr (inr (inl refl)))
field_among StaticUser = inr (inr (inr (inr (inl refl))))
field_among StaticProfile = inr (inr (inr (inr (inr (inl refl)))))

module _ (document : Data) where
  unpaired : (r : Rule) (ks : List Key) → NoneOf (IsBroken document) (map (λ k. (r, k)) ks) → NoneOf (Breaks document r) ks
  unpaired r [] none = tt
  unpaired r (k ∷ ks) none = (none.0, unpaired r ks none.1)

  -- no rule is broken at any key of a table
  sound_rule : IsSound document → (r : Rule) → NoneOf (IsBroken document) (rule_checks document r)
  unfolding checks
  sound_rule sound r = none_among (IsBroken document) (rule_checks document) rules_in_order r (rule_among r) sound

  sound_table : IsSound document → (r : Rule) (t : Table) → NoneOf (Breaks document r) (table_keys document t)
  unfolding keys
  sound_table sound r t = none_among (Breaks document r) (table_keys document) tables t (table_among t) (unpaired r (keys document) (sound_rule sound r))

  -- nor at the table as a whole, nor at a key of one of its entries
  pub sound_whole : IsSound document → (r : Rule) (t : Table) → ¬ Breaks document r (Whole t)
  sound_whole sound r t = (sound_table sound r t).0

  pub sound_field : IsSound document → (r : Rule) (f : Field) (place : ℕ) → place < entries document (field_row f).table → ¬ Breaks document r (Of f place)
  sound_field sound r f place less =
      not_among (Breaks document r) (λ g. Of g place) (fields (field_row f).table) f (field_among f)
      (none_entry (Breaks document r) (entry_keys (field_row f).table) place (entries document (field_row f).table) less (sound_table sound r (field_row f).table).1)
