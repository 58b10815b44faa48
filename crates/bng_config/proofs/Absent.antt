-- A key at which no rule is broken, and at which no value of its form stands: nothing stands there.
use Rattle.std.proofs.Common.{◌≡◌, ℕ, ◌<◌, ◌≤◌, List, Option, Some, None, refl, sym, ap, subst, ◌∙◌, arith}
use Rattle.arrayvec.specs.ArrayVec.{ArrayVec}
use Rattle.toml.specs.Data.{Data, as_array}
use Rattle.bng_base.specs.declared.address.Ip4.{Ip4}
use Rattle.bng_base.specs.declared.address.Mac.{Mac}
use Rattle.bng_base.specs.declared.address.Peer.{Peer}
use Rattle.bng_base.specs.declared.address.SessionNo.{SessionNo}
use Rattle.bng_base.specs.declared.settings.AuthKind.{AuthKind}
use Rattle.bng_schema.specs.declared.keys.Table.TheVariants.{Access}
use Rattle.bng_schema.specs.declared.keys.Key.{Key}
use Rattle.bng_schema.specs.declared.keys.Form.{Form}
use Rattle.bng_schema.specs.declared.keys.Form.TheVariants.{TableList, PrintableText, LabelText, OctetText, AnyText, AddressText, PeerText, MacText, Number, PortNumber, SessionNumber, ServiceList, KindList, AddressList}
use Rattle.bng_schema.specs.declared.rule.Rule.TheVariants.{C4, C5, C8}
use Rattle.bng_schema.specs.Keys.{path_of, value_at, entries, item_count, count_of}
use Rattle.bng_schema.specs.Forms.{StandsAt, IsText, IsArray, HasType, IsName, IsLabel, IsOctets, IsNumber, IsPeer, IsAddress, IsMac, IsSession, AreServices, AreAddresses, AreKinds, shards_of}
use Rattle.bng_schema.specs.Repeats.{HasText}
use Rattle.bng_schema.specs.Rules.{HasWrongCount}
use Rattle.bng_schema.proofs.Readings.{address_read, peer_read, mac_read, name_read, label_read, octets_read, number_read, port_read, session_read, kinds_read, addresses_read, services_read}
use Rattle.bng_config.specs.Sound.{IsSoundAs, IsThereAs}

-- what is not refused is so
stable : (a b : ℕ) → ((a ≤ b → ⊥) → ⊥) → a ≤ b
stable a b twice =
    let never : b < a → ⊥ = λ less. twice (λ le. omega arith) in
    omega (arith, never)

none_of : (o : Option Data) → ((d : Data) → o ≡ Some d → ⊥) → o ≡ None
none_of None h = refl
none_of (Some d) h = absurd (h d refl)

module _ (document : Data) (key : Key) where
  -- a key that must be there is there
  pub missed : (form : Form) → IsThereAs document key form → value_at (path_of key) document ≡ None → ⊥
  missed form h e = h.sound.kept C4 (h.needed, e)

  typed : (form : Form) → IsSoundAs document key form → (d : Data) → value_at (path_of key) document ≡ Some d → (HasType form d → ⊥) → ⊥
  typed form h d e never = h.kept C5 record { value = d; found = e; is = λ t. never (subst (λ f. HasType f d) h.is t) }

  counted : (form : Form) → IsSoundAs document key form → (d : Data) → value_at (path_of key) document ≡ Some d → HasWrongCount form d → ⊥
  counted form h d e bad = h.kept C8 record { value = d; found = e; is = subst (λ f. HasWrongCount f d) (sym h.is) bad }

  -- a list of tables is as long as it may be
  pub array_bounds : (least most : ℕ) → IsSoundAs document key (TableList least most) → (d : Data) → value_at (path_of key) document ≡ Some d
      → (least ≤ count_of (as_array d)) × (count_of (as_array d) ≤ most)
  array_bounds least most h d e =
      let within : ((least ≤ count_of (as_array d)) × (count_of (as_array d) ≤ most) → ⊥) → ⊥ = λ never. typed (TableList least most) h d e (λ (t : IsArray d).
      counted (TableList least most) h d e record {
        items = t.items;
        is = t.is;
        wrong = λ (both : (least ≤ item_count t.items) × (item_count t.items ≤ most)).
            let same : count_of (as_array d) ≡ item_count t.items = ap (λ x. count_of (as_array x)) t.is in
            never (omega (arith, same, both.0), omega (arith, same, both.1));
      }) in
      (stable least (count_of (as_array d)) (λ never. within (λ both. never both.0)), stable (count_of (as_array d)) most (λ never. within (λ both. never both.1)))

  absent : ((d : Data) → value_at (path_of key) document ≡ Some d → ⊥) → value_at (path_of key) document ≡ None
  absent never = none_of (value_at (path_of key) document) never

  pub text_absent : IsSoundAs document key AnyText → ((text : List ℕ) → ¬ HasText document key text) → value_at (path_of key) document ≡ None
  text_absent h none = absent (λ d e. typed AnyText h d e (λ (t : IsText d). none t.text (e ∙ ap Some t.is)))

  pub name_absent : IsSoundAs document key PrintableText → ((n : ArrayVec ℕ) → ¬ StandsAt document key (λ d. IsName d n)) → value_at (path_of key) document ≡ None
  name_absent h none = absent (λ d e. name_read document key h.kept d e h.is none)

  pub label_absent : IsSoundAs document key LabelText → ((n : ArrayVec ℕ) → ¬ StandsAt document key (λ d. IsLabel d n)) → value_at (path_of key) document ≡ None
  label_absent h none = absent (λ d e. label_read document key h.kept d e h.is none)

  pub octets_absent : (most : ℕ) → IsSoundAs document key (OctetText most) → ((o : ArrayVec ℕ) → ¬ StandsAt document key (λ d. IsOctets most d o)) → value_at (path_of key) document ≡ None
  octets_absent most h none = absent (λ d e. octets_read document key h.kept d e most h.is none)

  pub address_absent : IsSoundAs document key AddressText → ((a : Ip4) → ¬ StandsAt document key (λ d. IsAddress d a)) → value_at (path_of key) document ≡ None
  address_absent h none = absent (λ d e. address_read document key h.kept d e h.is none)

  pub peer_absent : IsSoundAs document key PeerText → ((p : Peer) → ¬ StandsAt document key (λ d. IsPeer d p)) → value_at (path_of key) document ≡ None
  peer_absent h none = absent (λ d e. peer_read document key h.kept d e h.is none)

  pub mac_absent : IsSoundAs document key MacText → ((m : Mac) → ¬ StandsAt document key (λ d. IsMac d m)) → value_at (path_of key) document ≡ None
  mac_absent h none = absent (λ d e. mac_read document key h.kept d e h.is none)

  pub number_absent : (least most : ℕ) → IsSoundAs document key (Number least most) → ((n : ℕ) → ¬ StandsAt document key (λ d. IsNumber least most d n)) → value_at (path_of key) document ≡ None
  number_absent least most h none = absent (λ d e. number_read document key h.kept d e least most h.is none)

  pub port_absent : (ports : ℕ) → ports ≡ entries document Access → IsSoundAs document key PortNumber → ((n : ℕ) → ¬ StandsAt document key (λ d. IsNumber 1 ports d n)) → value_at (path_of key) document ≡ None
  port_absent ports all h none = absent (λ d e. port_read document key h.kept d e h.is (subst (λ m. (n : ℕ) → ¬ StandsAt document key (λ x. IsNumber 1 m x n)) all none))

  pub session_absent : (shards : ℕ) → shards ≡ shards_of document → IsSoundAs document key SessionNumber → ((s : SessionNo) → ¬ StandsAt document key (λ d. IsSession shards d s)) → value_at (path_of key) document ≡ None
  session_absent shards all h none = absent (λ d e. session_read document key h.kept d e h.is (subst (λ n. (s : SessionNo) → ¬ StandsAt document key (λ x. IsSession n x s)) all none))

  pub kinds_absent : IsSoundAs document key KindList → ((k : ArrayVec AuthKind) → ¬ StandsAt document key (λ d. AreKinds d k)) → value_at (path_of key) document ≡ None
  kinds_absent h none = absent (λ d e. kinds_read document key h.kept d e h.is none)

  pub services_absent : IsSoundAs document key ServiceList → ((s : ArrayVec (ArrayVec ℕ)) → ¬ StandsAt document key (λ d. AreServices d s)) → value_at (path_of key) document ≡ None
  services_absent h none = absent (λ d e. services_read document key h.kept d e h.is none)

  pub addresses_absent : (least most : ℕ) → IsSoundAs document key (AddressList least most) → ((a : ArrayVec Ip4) → ¬ StandsAt document key (λ d. AreAddresses least most d a))
      → value_at (path_of key) document ≡ None
  addresses_absent least most h none = absent (λ d e. addresses_read document key h.kept d e least most h.is none)
