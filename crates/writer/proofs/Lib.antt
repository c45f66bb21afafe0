mod Laid
mod Taking
