-- A list, or everything.
use Rattle.std.proofs.Common.{arith}
use Rattle.acl.proofs.Named.{content_listed, content_everything}
use Rattle.acl.proofs.granted.put_content.Goals as goal

pub returns-in-Listed : goal.returns-in-Listed
returns-in-Listed c = record {
  wrote = rw (content_listed c.args.a.now c.in-Listed.is) c.put_luacds.ensures.wrote;
  fits = c.put_luacds.ensures.fits;
}

pub returns-in-Everything : goal.returns-in-Everything
returns-in-Everything c = record {
  wrote = rw (content_everything c.args.a.now c.in-Everything.is) c.put_bytes.ensures;
  fits = omega (arith, c.put_bytes.ensures.ended);
}
