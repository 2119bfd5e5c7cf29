-- ALL CLAIMS about what a host holds, each from its own file. Assumes nothing.
use Rattle.host.specs.Claims.{HostClaim}
use Rattle.host.proofs.Back.{offer_back, accepted}
use Rattle.host.proofs.Held.{held_is, on}
use Rattle.host.proofs.Wrote.{wrote_is, stays, again}

pub host : HostClaim
host = record { held_is = held_is; on = on; wrote_is = wrote_is; stays = stays; offer = offer_back; again = again; accepted = accepted }
