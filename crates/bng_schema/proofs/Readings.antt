-- A value that stands at a key at which no rule is broken is read: no reader can find none.
use Rattle.std.proofs.Common.{◌≡◌, ℕ, zero, suc, ℤ, ◌<◌, ◌^◌, List, [], ◌∷◌, length, map, Option, Some, None, IsTrue, refl, sym, ap, subst, ◌∙◌, arith}
use Rattle.std.specs.List.{All, AllByRecursion}
use Rattle.arrayvec.specs.ArrayVec.{ArrayVec}
use Rattle.toml.specs.Data.{Data, Items, no_items, item, string, integer, array, at, get_item}
use Rattle.toml.specs.View.{items_of}
use Rattle.bng_base.specs.declared.address.Ip4.{Ip4}
use Rattle.bng_base.specs.declared.address.Mac.{Mac}
use Rattle.bng_base.specs.declared.address.Peer.{Peer}
use Rattle.bng_base.specs.declared.address.SessionNo.{SessionNo}
use Rattle.bng_base.specs.declared.settings.AuthKind.{AuthKind}
use Rattle.bng_schema.specs.declared.keys.Table.TheVariants.{Access}
use Rattle.bng_schema.specs.declared.keys.Key.{Key}
use Rattle.bng_schema.specs.declared.keys.Form.{Form}
use Rattle.bng_schema.specs.declared.keys.Form.TheVariants.{PrintableText, LabelText, OctetText, AddressText, PeerText, MacText, Number, PortNumber, SessionNumber, ServiceList, KindList, AddressList}
use Rattle.bng_schema.specs.declared.rule.Rule.{Rule}
use Rattle.bng_schema.specs.declared.rule.Rule.TheVariants.{C4, C5, C6, C7, C8, C9}
use Rattle.bng_schema.specs.Address.{address_text}
use Rattle.bng_schema.specs.Names.{IsShortText}
use Rattle.bng_schema.specs.Keys.{row, path_of, value_at, item_count, entries}
use Rattle.bng_schema.specs.Forms.{StandsAt, HasType, IsText, IsInteger, IsName, IsLabel, IsOctets, IsNumber, AreServices, AreAddresses, AreKinds, IsPeer, IsAddress, IsAddressText, IsMac, IsSession, IsWithin, IsInRange, HasNumberOutside, HasWrongText, HasBadText, shards_of}
use Rattle.bng_schema.specs.Rules.{Breaks, HasWrongCount, HasWrongKinds}

-- by recursion and by places
all_of : {X : Type 0} (P : X → Type 0) (xs : List X) → AllByRecursion P xs → All P xs
all_of P [] h i d less = absurd (omega arith)
all_of P (x ∷ xs) h zero d less = h.0
all_of P (x ∷ xs) h (suc i) d less = all_of P xs h.1 i d (omega arith)

-- the texts of items that are texts of which none is wrong, given to what follows from them
short_items : (most : ℕ) (items : Items) → ((i : ℕ) (e : Data) → get_item i items ≡ Some e → IsText e) → ((i : ℕ) (e : Data) → get_item i items ≡ Some e → ¬ HasWrongText (IsShortText most) e)
    → ((xs : List (ArrayVec ℕ)) → items ≡ items_of (map (λ s. string s.items) xs) → AllByRecursion (λ s. IsShortText most s.items) xs → item_count items ≡ length xs → ⊥) → ⊥
short_items most no_items texts right then = then [] refl tt refl
short_items most (item d ds) texts right then =
    let text = texts 0 d refl in
    right 0 d refl record {
      text = text.text;
      is = text.is;
      wrong = λ short. short_items most ds (λ i e at. texts (suc i) e at) (λ i e at. right (suc i) e at)
          (λ xs is are many. then (record { items = text.text } ∷ xs) (λ k. item (text.is k) (is k)) (short, are) (ap suc many));
    }

-- the addresses of items that are addresses
addresses_in : (items : Items) → ((i : ℕ) (e : Data) → get_item i items ≡ Some e → IsAddressText e)
    → (addresses : List Ip4) × (items ≡ items_of (map (λ a. string (address_text a)) addresses)) × AllByRecursion (λ a. a.0 < 2 ^ 32) addresses × (item_count items ≡ length addresses)
addresses_in no_items each = ([], refl, tt, refl)
addresses_in (item d ds) each =
    let first = each 0 d refl in
    let (addresses, are, fit, many) = addresses_in ds (λ i e at. each (suc i) e at) in
    (first.address ∷ addresses, λ k. item (first.is.text k) (are k), (first.is.address, fit), ap suc many)

module _ (document : Data) (key : Key) (kept : (r : Rule) → ¬ Breaks document r key) where
  there_or_not : IsTrue (row key).needed → (o : Option Data) → value_at (path_of key) document ≡ o → (d : Data) × (value_at (path_of key) document ≡ Some d)
  there_or_not needed None e = absurd (kept C4 (needed, e))
  there_or_not needed (Some d) e = (d, e)

  -- something stands at a key that must be there
  pub something : IsTrue (row key).needed → (d : Data) × (value_at (path_of key) document ≡ Some d)
  something needed = there_or_not needed (value_at (path_of key) document) refl

  module _ (d : Data) (found : value_at (path_of key) document ≡ Some d) where
    -- it is of its type, its number is in its range, its texts and its count are right
    typed : (form : Form) → (row key).form ≡ form → (HasType form d → ⊥) → ⊥
    typed form same none = kept C5 record { value = d; found = found; is = subst (λ x. ¬ HasType x d) (sym same) none }

    in_range : (form : Form) → (row key).form ≡ form → HasNumberOutside document form d → ⊥
    in_range form same bad = kept C6 record { value = d; found = found; is = subst (λ x. HasNumberOutside document x d) (sym same) bad }

    well_spelt : (form : Form) → (row key).form ≡ form → HasBadText form d → ⊥
    well_spelt form same bad = kept C7 record { value = d; found = found; is = subst (λ x. HasBadText x d) (sym same) bad }

    well_counted : (form : Form) → (row key).form ≡ form → HasWrongCount form d → ⊥
    well_counted form same bad = kept C8 record { value = d; found = found; is = subst (λ x. HasWrongCount x d) (sym same) bad }

    pub address_read : (row key).form ≡ AddressText → ((a : Ip4) → ¬ StandsAt document key (λ d. IsAddress d a)) → ⊥
    address_read same none = typed AddressText same (λ has. none has.address record { value = d; found = found; is = has.is })

    pub peer_read : (row key).form ≡ PeerText → ((p : Peer) → ¬ StandsAt document key (λ d. IsPeer d p)) → ⊥
    peer_read same none = typed PeerText same (λ has. none has.0 record { value = d; found = found; is = has.1 })

    pub mac_read : (row key).form ≡ MacText → ((m : Mac) → ¬ StandsAt document key (λ d. IsMac d m)) → ⊥
    mac_read same none = typed MacText same (λ has. none has.0 record { value = d; found = found; is = has.1 })

    pub name_read : (row key).form ≡ PrintableText → ((n : ArrayVec ℕ) → ¬ StandsAt document key (λ d. IsName d n)) → ⊥
    name_read same none = typed PrintableText same (λ has. well_spelt PrintableText same record {
      text = has.text;
      is = has.is;
      wrong = λ right. none record { items = has.text } record { value = d; found = found; is = record { text = has.is; is = right } };
    })

    pub label_read : (row key).form ≡ LabelText → ((n : ArrayVec ℕ) → ¬ StandsAt document key (λ d. IsLabel d n)) → ⊥
    label_read same none = typed LabelText same (λ has. well_spelt LabelText same record {
      text = has.text;
      is = has.is;
      wrong = λ right. none record { items = has.text } record { value = d; found = found; is = record { text = has.is; is = right } };
    })

    pub octets_read : (most : ℕ) → (row key).form ≡ OctetText most → ((o : ArrayVec ℕ) → ¬ StandsAt document key (λ d. IsOctets most d o)) → ⊥
    octets_read most same none = typed (OctetText most) same (λ has. well_spelt (OctetText most) same record {
      text = has.text;
      is = has.is;
      wrong = λ right. none record { items = has.text } record { value = d; found = found; is = record { text = has.is; is = right } };
    })

    whole_read : (form : Form) (least most : ℕ) → (row key).form ≡ form → (HasType form d → IsInteger d) → ((z : ℤ) → IsInRange document form z → IsWithin least most z)
        → ((n : ℕ) → ¬ StandsAt document key (λ d. IsNumber least most d n)) → ⊥
    whole_read form least most same type range none = typed form same (λ has.
        let whole = type has in
        in_range form same record {
          number = whole.number;
          is = whole.is;
          outside = λ inside. let within = range whole.number inside in none within.natural record {
            value = d;
            found = found;
            is = record { number = whole.is ∙ ap integer within.is; low = within.low; high = within.high };
          };
        })

    pub number_read : (least most : ℕ) → (row key).form ≡ Number least most → ((n : ℕ) → ¬ StandsAt document key (λ d. IsNumber least most d n)) → ⊥
    number_read least most same none = whole_read (Number least most) least most same (λ h. h) (λ z h. h) none

    pub port_read : (row key).form ≡ PortNumber → ((n : ℕ) → ¬ StandsAt document key (λ d. IsNumber 1 (entries document Access) d n)) → ⊥
    port_read same none = whole_read PortNumber 1 (entries document Access) same (λ h. h) (λ z h. h) none

    pub session_read : (row key).form ≡ SessionNumber → ((s : SessionNo) → ¬ StandsAt document key (λ d. IsSession (shards_of document) d s)) → ⊥
    session_read same none = typed SessionNumber same (λ has. in_range SessionNumber same record {
      number = has.number;
      is = has.is;
      outside = λ inside. none record { 0 = inside.natural } record {
        value = d;
        found = found;
        is = record { number = has.is ∙ ap integer inside.is; is = inside.session };
      };
    })

    pub kinds_read : (row key).form ≡ KindList → ((k : ArrayVec AuthKind) → ¬ StandsAt document key (λ d. AreKinds d k)) → ⊥
    kinds_read same none = kept C9 record {
      value = d;
      found = found;
      is = subst (λ x. HasWrongKinds x d) (sym same) (λ kinds are. none kinds record { value = d; found = found; is = are });
    }

    pub addresses_read : (least most : ℕ) → (row key).form ≡ AddressList least most → ((a : ArrayVec Ip4) → ¬ StandsAt document key (λ d. AreAddresses least most d a)) → ⊥
    addresses_read least most same none = typed (AddressList least most) same (λ has.
        let (addresses, are, fit, many) = addresses_in has.items (λ i e at_place. has.each i e (ap (at i) has.is ∙ at_place)) in
        well_counted (AddressList least most) same record {
          items = has.items;
          is = has.is;
          wrong = λ count. none record { items = addresses } record {
            value = d;
            found = found;
            is = record { list = has.is ∙ ap array are; some = omega (arith, many, count.0); few = omega (arith, many, count.1); are = all_of (λ a. a.0 < 2 ^ 32) addresses fit };
          };
        })

    pub services_read : (row key).form ≡ ServiceList → ((s : ArrayVec (ArrayVec ℕ)) → ¬ StandsAt document key (λ d. AreServices d s)) → ⊥
    services_read same none = typed ServiceList same (λ has.
        short_items 64 has.items (λ i e at_place. has.each i e (ap (at i) has.is ∙ at_place))
        (λ i e at_place wrong. well_spelt ServiceList same record { place = i; item = e; there = ap (at i) has.is ∙ at_place; wrong = wrong })
        (λ xs are short many. well_counted ServiceList same record {
          items = has.items;
          is = has.is;
          wrong = λ count. none record { items = xs } record {
            value = d;
            found = found;
            is = record { list = has.is ∙ ap array are; few = omega (arith, many, count); are = all_of (λ s. IsShortText 64 s.items) xs short };
          };
        }))
