use Rattle.std.proofs.Common.{◌≡◌, ℕ, List, [], ◌∷◌, length, take, ap, subst, ◌∙◌}
use Rattle.bng_digest.specs.Hiding.{hidden_password}
use Rattle.bng_acct.specs.Attributes.{octets, GoesOn}
use Rattle.bng_access.specs.Request.{blocks_size, padded}
use Rattle.bng_access.proofs.Padding.{blocks_of}
use Rattle.bng_access.proofs.password.put_hidden.Goals as goal

pub returns-clause-goes_on : goal.returns-clause-goes_on
returns-clause-goes_on c =
    let password = c.args.password.now in
    let block : take c.blocks_size.result c.zero_padded-block.result ≡ padded password =
    ap (λ (n : ℕ). take n c.zero_padded-block.result) c.blocks_size.ensures.size
    ∙ ap (λ (octets : List ℕ). take (blocks_size (length password)) octets) c.zero_padded-block.ensures
    ∙ blocks_of password c.requires.most in
    let hidden = c.hide_password.ensures.value ∙ ap (hidden_password c.args.secret.now c.args.authenticator.now) block in
    subst (λ (value : List ℕ). GoesOn c.args.into.now.payload c.put.new.into.payload (octets 2 value ∷ [])) hidden c.put.ensures.goes_on
