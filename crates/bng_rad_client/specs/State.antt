-- What a contract sees of the client.
use Rattle.std.specs.Prelude.{◌≡◌, ℕ, List, None, replicate}
use Rattle.bng_base.specs.declared.address.Peer.{Peer}
use Rattle.bng_rad_client.specs.declared.rules.Lane.{Lane}
use Rattle.bng_rad_client.specs.declared.rules.Lane.TheVariants.{Auth, Acct}
use Rattle.bng_rad_client.specs.Table.{Table}

pub record State : Type 0 where
  pub auth : Table
  pub acct : Table
  pub auth_server : Peer
  pub acct_server : Peer
  pub secret : List ℕ
  pub tries : ℕ

abbrev pub table_of : State → Lane → Table
table_of s Auth = s.auth
table_of s Acct = s.acct

abbrev pub server_of : State → Lane → Peer
server_of s Auth = s.auth_server
server_of s Acct = s.acct_server

abbrev pub other : Lane → Lane
other Auth = Acct
other Acct = Auth

-- all but the table of the lane is as it was
pub record ChangesTable (old new : State) (lane : Lane) : Type 0 where
  pub table : table_of new (other lane) ≡ table_of old (other lane)
  pub auth_server : new.auth_server ≡ old.auth_server
  pub acct_server : new.acct_server ≡ old.acct_server
  pub secret : new.secret ≡ old.secret
  pub tries : new.tries ≡ old.tries

-- no request is out, and the first identifier that will be given is 0
abbrev pub empty : Table
empty = record { places = replicate 256 None; last = 255 }

pub record IsOpened (s : State) (auth acct : Peer) (secret : List ℕ) (tries : ℕ) : Type 0 where
  pub auth_is : s.auth ≡ empty
  pub acct_is : s.acct ≡ empty
  pub auth_server : s.auth_server ≡ auth
  pub acct_server : s.acct_server ≡ acct
  pub secret_is : s.secret ≡ secret
  pub tries_are : s.tries ≡ tries
