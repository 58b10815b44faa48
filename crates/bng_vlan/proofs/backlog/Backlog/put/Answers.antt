use Rattle.std.proofs.Common.{◌≡◌, ◌+◌, ◌<◌, ◌≤◌, ◌∷◌, ◌++◌, [], ℕ, List, ap, sym, subst, ◌∙◌, length, take, drop, length-set, slice_set, refl, arith}
use Rattle.bng_vlan.specs.declared.map.VlanEntry.{VlanEntry}
use Rattle.bng_vlan.specs.Tags.{width_of, without}
use Rattle.bng_vlan.specs.Frames.{Came}
use Rattle.bng_vlan.specs.Waiting.{Keeps, frames_at}
use Rattle.bng_vlan.specs.Views.{map_of, waiting_of}
use Rattle.bng_vlan.proofs.Lists.{get_below}
use Rattle.bng_vlan.proofs.Putting.{entry_is, frames_at_get, keeps_frame, keeps_stray, stay_few, whole_frame}
use Rattle.bng_vlan.proofs.backlog.Backlog.put.Goals as goal

pub put-requires-clause-whole : goal.put-requires-clause-whole
put-requires-clause-whole c =
    let found = c.in-Some.ensures.found in
    let e = found.0 in
    let m = map_of c.args.self.now in
    let came : Came = record { trunk = c.args.trunk; from = c.args.from; cut = c.args.cut; octets = c.payload-octets.result.now } in
    let is : c.index.result.now ≡ e = c.index.ensures ∙ entry_is m.entries c.in-Some.place c.index.result.now e found.1 in
    let width : c.width_of-width.result ≡ width_of e.inner = c.width_of-width.ensures ∙ ap (λ (d : VlanEntry). width_of d.inner) is in
    let whole = whole_frame m came e found.2 in
    omega arith

pub invariant_of-self-in-Some : goal.invariant_of-self-in-Some
invariant_of-self-in-Some c =
    let found = c.in-Some.ensures.found in
    let e = found.0 in
    let m = map_of c.args.self.now in
    let v = waiting_of c.args.self.now in
    let came : Came = record { trunk = c.args.trunk; from = c.args.from; cut = c.args.cut; octets = c.payload-octets.result.now } in
    let is : c.index.result.now ≡ e = c.index.ensures ∙ entry_is m.entries c.in-Some.place c.index.result.now e found.1 in
    let width : c.width_of-width.result ≡ width_of e.inner = c.width_of-width.ensures ∙ ap (λ (d : VlanEntry). width_of d.inner) is in
    let inside : c.in-Some.place < length v.frames = omega (arith, get_below m.entries c.in-Some.place e found.1, c.args.self.now.one_each) in
    let q : c.put.new.self ≡ frames_at c.in-Some.place v.frames ++ without e.inner came.octets ∷ [] =
    c.put.ensures
    ∙ ap (λ (n : ℕ). c.index_mut.result.now ++ (take 12 came.octets ++ drop (12 + n) came.octets) ∷ []) width
    ∙ ap (λ (x : List (List ℕ)). x ++ without e.inner came.octets ∷ []) (c.index_mut.ensures.value ∙ sym (frames_at_get c.in-Some.place v.frames c.index_mut.result.now inside)) in
    record {
      sound = c.args.self.now.sound;
      one_each = length-set v.frames c.in-Some.place c.put.new.self ∙ c.args.self.now.one_each;
      few = stay_few m came c.args.self.now.sound c.in-Some.place e found.1 found.2 v inside c.args.self.now.few c.requires.room c.put.new.self q;
    }

pub returns-in-None-clause-keeps : goal.returns-in-None-clause-keeps
returns-in-None-clause-keeps c =
    let m = map_of c.args.self.now in
    let v = waiting_of c.args.self.now in
    let of : List ℕ → Came = λ octets. record { trunk = c.args.trunk; from = c.args.from; cut = c.args.cut; octets = octets } in
    subst (λ (o : List ℕ). Keeps m v (of o ∷ []) (record { frames = v.frames; strays = c.one_more-self.result })) c.payload-octets.ensures.octets
    (keeps_stray m (of c.payload-octets.result.now) v c.one_more-self.result c.one_more-self.ensures (c.in-None.ensures.none refl))

pub returns-in-Some-clause-keeps : goal.returns-in-Some-clause-keeps
returns-in-Some-clause-keeps c =
    let found = c.in-Some.ensures.found in
    let e = found.0 in
    let m = map_of c.args.self.now in
    let v = waiting_of c.args.self.now in
    let of : List ℕ → Came = λ octets. record { trunk = c.args.trunk; from = c.args.from; cut = c.args.cut; octets = octets } in
    let came : Came = of c.payload-octets.result.now in
    let is : c.index.result.now ≡ e = c.index.ensures ∙ entry_is m.entries c.in-Some.place c.index.result.now e found.1 in
    let width : c.width_of-width.result ≡ width_of e.inner = c.width_of-width.ensures ∙ ap (λ (d : VlanEntry). width_of d.inner) is in
    let inside : c.in-Some.place < length v.frames = omega (arith, get_below m.entries c.in-Some.place e found.1, c.args.self.now.one_each) in
    let q : c.put.new.self ≡ frames_at c.in-Some.place v.frames ++ without e.inner came.octets ∷ [] =
    c.put.ensures
    ∙ ap (λ (n : ℕ). c.index_mut.result.now ++ (take 12 came.octets ++ drop (12 + n) came.octets) ∷ []) width
    ∙ ap (λ (x : List (List ℕ)). x ++ without e.inner came.octets ∷ []) (c.index_mut.ensures.value ∙ sym (frames_at_get c.in-Some.place v.frames c.index_mut.result.now inside)) in
    subst (λ (o : List ℕ). Keeps m v (of o ∷ []) (record { frames = slice_set v.frames c.in-Some.place c.put.new.self; strays = v.strays })) c.payload-octets.ensures.octets
    (keeps_frame m came c.args.self.now.sound c.in-Some.place e found.1 found.2 v inside c.put.new.self q)
